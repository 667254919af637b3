-- Laws on lists of entries: what a put back list is, and sums and entries after one is replaced or added.
use mathlib.Core.Path.{◌≡◌, refl, sym, ap, ap₂, ◌∙◌}
use Prim.Native.Nat.{ℕ, zero, suc, ◌+◌, ◌-◌, ◌<◌}
use native.Mathlib.Nat.{le_of_suc-le-suc, not-suc-le-zero}
use native.Mathlib.Omega.{arith}
use mathlib.Core.List.{List, [], ◌∷◌, ◌++◌, append_assoc}
use lib.ListN.{length, take, drop, get_or, set, replicate, length-map}
use lib.Seq.{take_at, drop_at}
use Rattle.common.specs.Lists.{◌over◌, total}
use Rattle.stringpool.specs.Pool.{Entry, Rooms, cut, texts, put_back}
use Rattle.stringpool.specs.inner.Entries.{first_entries, lengths_of, counts_of}
use Rattle.stringpool.specs.declared.pool.StringPool.{StringPool}
use Rattle.stringpool.specs.inner.Entries.{none}
use Rattle.stringpool_promises.specs.Promises.{count_for, sum_for}

-- entries put end to end are cut apart again
pub cut-texts : (es : List Entry) (rest : List ℕ) → cut (lengths_of es) (counts_of es) (texts es ++ rest) ≡ es
cut-texts [] rest = refl
cut-texts (e ∷ es) rest =
    let t : List ℕ = e.text in
    let a : take (length t) (t ++ texts es ++ rest) ≡ t = ap (take (length t)) (append_assoc t (texts es) rest) ∙ take_at t (texts es ++ rest) (length t) refl in
    let b : drop (length t) (t ++ texts es ++ rest) ≡ texts es ++ rest = ap (drop (length t)) (append_assoc t (texts es) rest) ∙ drop_at t (texts es ++ rest) (length t) refl in
    ap₂ (λ (x : List ℕ) (r : List ℕ). record { text = x; count = e.count } ∷ cut (lengths_of es) (counts_of es) r) a b
    ∙ ap (λ (r : List Entry). e ∷ r) (cut-texts es rest)

-- the entries of rooms into which entries were put are those
pub entries-put : (p : StringPool) (m : ℕ) (w : Rooms) (es : List Entry) → m ≡ length es → first_entries m (put_back p w es) ≡ es
entries-put p m w es h =
    let a : take m (lengths_of es over w.lengths) ≡ lengths_of es =
    take_at (lengths_of es) (drop (length (lengths_of es)) w.lengths) m (length-map es (λ (e : Entry). length e.text) ∙ sym h) in
    let b : take m (counts_of es over w.counts) ≡ counts_of es =
    take_at (counts_of es) (drop (length (counts_of es)) w.counts) m (length-map es (λ (e : Entry). e.count) ∙ sym h) in
    let z : List ℕ = replicate (total (take p.num_strings w.lengths) - length (texts es)) 0 in
    let r : List ℕ = drop (length (texts es ++ z)) w.text in
    ap₂ (λ (x y : List ℕ). cut x y (texts es ++ z ++ r)) a b
    ∙ ap (cut (lengths_of es) (counts_of es)) (append_assoc (texts es) z r)
    ∙ cut-texts es (z ++ r)

-- one entry is replaced
pub sum-set : (t : List ℕ) (es : List Entry) (k : ℕ) (e : Entry) → k < length es
    → sum_for t (set es k e) + count_for t (get_or es k none) ≡ sum_for t es + count_for t e
sum-set t [] k e h = absurd (not-suc-le-zero h)
sum-set t (x ∷ es) zero e h = omega arith
sum-set t (x ∷ es) (suc k) e h = omega (arith, sum-set t es k e (le_of_suc-le-suc h))

-- one is added
pub sum-snoc : (t : List ℕ) (es : List Entry) (e : Entry) → sum_for t (es ++ (e ∷ [])) ≡ sum_for t es + count_for t e
sum-snoc t [] e = omega arith
sum-snoc t (x ∷ es) e = omega (arith, sum-snoc t es e)

-- Entries that fit put back into the rooms of a sound pool leave a sound pool.
use mathlib.Core.Path.{◌≡◌, refl, sym, ap, ap₂, ◌∙◌}
use Prim.Native.Nat.{ℕ, zero, suc, ◌+◌, ◌-◌, ◌≤◌, ◌<◌}
use native.Mathlib.Omega.{arith}
use mathlib.Core.Bool.{Bool, true, false}
use mathlib.Core.List.{List, [], ◌∷◌, ◌++◌}
use lib.ListN.{length, take, drop, get_or, set, replicate, length-append, length-drop, length-replicate, length-map}
use lib.Seq.{take_at}
use lib.Dec.{leb, eqb}
use borrow.Author.Tests.{leb-false, ne_eqb}
use Rattle.common.specs.Choice.{when◌then◌else◌}
use Rattle.common.specs.Lists.{◌over◌, total}
use Rattle.stringpool.specs.Pool.{Entry, entry, Rooms, texts, put_back, free, sound}
use Rattle.stringpool.specs.Take.{increased, taken_at_lem}
use Rattle.stringpool.specs.Drop.{lessened}
use Rattle.pool_entries.specs.inner.Sound.{small_b, all_small_lem}
use Rattle.stringpool.specs.inner.Entries.{first_entries, lengths_of, counts_of}
use Rattle.stringpool.specs.inner.Entries.{none}
use Rattle.stringpool.specs.declared.pool.StringPool.{StringPool}
use Rattle.stringpool.proofs.Entries.{both, lengths-cut, counts-cut}
use Rattle.pool_entries.proofs.Sound.{then_second}
use Rattle.stringpool_promises.proofs.Sounds.{SoundFit, fit-sound}
use Rattle.stringpool_promises.proofs.Steps.{by_place}

-- ---- every free entry is small

abbrev pub Small : List Entry → Type 0
Small es = all_small_lem (lengths_of es) (counts_of es) ≡ true

abbrev pub SmallOne : Entry → Type 0
SmallOne e = small_b (length e.text) e.count ≡ true

small-cons : (e : Entry) (es : List Entry) → SmallOne e → Small es → Small (e ∷ es)
small-cons e es a b = ap (λ (x : Bool). (when x then all_small_lem (lengths_of es) (counts_of es) else false)) a ∙ b

small-set : (es : List Entry) (k : ℕ) (e : Entry) → SmallOne e → Small es → Small (set es k e)
small-set [] k e a h = h
small-set (x ∷ es) zero e a h = small-cons e es a (then_second (small_b (length x.text) x.count) (all_small_lem (lengths_of es) (counts_of es)) h).1
small-set (x ∷ es) (suc k) e a h =
    let q = then_second (small_b (length x.text) x.count) (all_small_lem (lengths_of es) (counts_of es)) h in
    small-cons x (set es k e) q.0 (small-set es k e a q.1)

small-snoc : (es : List Entry) (e : Entry) → SmallOne e → Small es → Small (es ++ (e ∷ []))
small-snoc [] e a h = small-cons e [] a refl
small-snoc (x ∷ es) e a h =
    let q = then_second (small_b (length x.text) x.count) (all_small_lem (lengths_of es) (counts_of es)) h in
    small-cons x (es ++ (e ∷ [])) q.0 (small-snoc es e a q.1)

small-counted : (l c : ℕ) → 0 < c → small_b l c ≡ true
small-counted l c h = let f : eqb c 0 ≡ false = ne_eqb c 0 (omega arith) in simp f

small-lessened : (e : Entry) → SmallOne (lessened e)
small-lessened e = go (leb e.count 1) refl
  where
    go : (b : Bool) → leb e.count 1 ≡ b → SmallOne (when b then entry [] 0 else entry e.text (e.count - 1))
    go true f = refl
    go false f = small-counted (length e.text) (e.count - 1) (omega (arith, leb-false e.count 1 f))

small-increased : (t : List ℕ) (e : Entry) → SmallOne (increased t e)
small-increased t e = go (free e)
  where
    go : (b : Bool) → SmallOne (when b then entry t 1 else entry e.text (e.count + 1))
    go true = small-counted (length t) 1 (omega arith)
    go false = small-counted (length e.text) (e.count + 1) (omega arith)

pub small-taken : (t : List ℕ) (k : ℕ) (es : List Entry) → Small es → Small (taken_at_lem t k es)
small-taken t k es h = by_place t es k Small
    (λ q. small-set es k (increased t (get_or es k none)) (small-increased t (get_or es k none)) h)
    (λ q. small-snoc es (entry t 1) (small-counted (length t) 1 (omega arith)) h)

pub small-dropped : (es : List Entry) (k : ℕ) → Small es → Small (set es k (lessened (get_or es k none)))
small-dropped es k h = small-set es k (lessened (get_or es k none)) (small-lessened (get_or es k none)) h

pub small-entries : (p : StringPool) (w : Rooms) → SoundFit p w → Small (first_entries p.num_strings w)
small-entries p w s =
    let n : ℕ = p.num_strings in
    ap₂ all_small_lem (lengths-cut (take n w.lengths) (take n w.counts) w.text (both n w s.fit) s.fit.text)
    (counts-cut (take n w.lengths) (take n w.counts) w.text (both n w s.fit))
    ∙ s.small

-- ---- rooms into which entries were put

total-lengths : (es : List Entry) → total (lengths_of es) ≡ length (texts es)
total-lengths [] = refl
total-lengths (e ∷ es) = ap (λ (i : ℕ). length e.text + i) (total-lengths es) ∙ sym (length-append e.text (texts es))

module _ (q p : StringPool) (w : Rooms) (es : List Entry) (c : q.num_strings ≡ length es) (few : q.num_strings ≤ 16777215) (page : q.codepage ≤ 0x7fff_ffff)
    (used : total (take p.num_strings w.lengths) ≤ length w.text) (size : length w.text ≤ 268435455)
    (room : length (texts es) ≤ length w.text) (small : Small es) where
  text-length : length (put_back p w es).text ≡ length w.text
  text-length =
      let u : ℕ = total (take p.num_strings w.lengths) in
      let l : ℕ = length (texts es) in
      let x : List ℕ = texts es ++ replicate (u - l) 0 in
      let lx : length x ≡ l + (u - l) = length-append (texts es) (replicate (u - l) 0) ∙ ap (λ (i : ℕ). l + i) (length-replicate (u - l) 0) in
      omega (arith, lx, length-append x (drop (length x) w.text), length-drop (length x) w.text)

  lengths-in : take q.num_strings (lengths_of es over w.lengths) ≡ lengths_of es
  lengths-in = take_at (lengths_of es) (drop (length (lengths_of es)) w.lengths) q.num_strings (length-map es (λ (e : Entry). length e.text) ∙ sym c)

  counts-in : take q.num_strings (counts_of es over w.counts) ≡ counts_of es
  counts-in = take_at (counts_of es) (drop (length (counts_of es)) w.counts) q.num_strings (length-map es (λ (e : Entry). e.count) ∙ sym c)

  put_fits : SoundFit q (put_back p w es)
  put_fits =
      let ml : length (lengths_of es) ≡ length es = length-map es (λ (e : Entry). length e.text) in
      let mc : length (counts_of es) ≡ length es = length-map es (λ (e : Entry). e.count) in
      record {
        fit = record {
          lengths = omega (arith, length-append (lengths_of es) (drop (length (lengths_of es)) w.lengths));
          counts = omega (arith, length-append (counts_of es) (drop (length (counts_of es)) w.counts));
          text = omega (arith, text-length, ap total lengths-in ∙ total-lengths es);
        };
        few = few;
        page = page;
        small = ap₂ all_small_lem lengths-in counts-in ∙ small;
      }

  pub put_state : (length (put_back p w es).text ≤ 268435455) × (sound q (put_back p w es) ≡ true)
  put_state = (omega (arith, text-length), fit-sound q (put_back p w es) put_fits)

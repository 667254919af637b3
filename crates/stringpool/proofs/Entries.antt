-- Laws of the entries that are cut out of rooms and put back.
use mathlib.Core.Path.{◌≡◌, refl, sym, ap, ap₂, ◌∙◌}
use Prim.Native.Nat.{ℕ, zero, suc, ◌+◌, ◌-◌, ◌≤◌, ◌<◌, max}
use native.Mathlib.Nat.{le_of_suc-le-suc, not-suc-le-zero}
use native.Mathlib.Numerals.{add-one}
use native.Mathlib.Omega.{arith}
use mathlib.Core.Bool.{Bool, true, false}
use mathlib.Core.List.{List, [], ◌∷◌, ◌++◌, append_assoc, append-nil}
use lib.ListN.{length, take, drop, get_or, set, replicate, length-append, length-drop, length-set, length-map, length-replicate, take-append-drop, get_or-eq_default}
use lib.Seq.{take-add, drop-drop, set-append_left, length-take-le, set-get_or, get_or-take, take-take, set_split}
use lib.Dec.{leb}
use borrow.Author.Tests.{leb-true, leb-false}
use Rattle.common.specs.Lists.{total}
use Rattle.text_room.specs.Texts.{splice}
use Rattle.stringpool.specs.Pool.{Entry, Rooms, rooms, cut, entries_of, texts, put_back}
use Rattle.stringpool.specs.inner.Entries.{Fit, first_entries, none, lengths_of, counts_of}
use Rattle.stringpool.specs.declared.pool.StringPool.{StringPool}
use Rattle.text_room.proofs.Splice.{front, length_front}
use Rattle.common.proofs.Lists.{map-set, map_snoc}
use Rattle.common.proofs.Sums.{total-in}
pub use Rattle.pool_entries.proofs.Entries.{length_cut, get_or-cut, both, length-entries, entry-at}

pub counts-cut : (ls cs ts : List ℕ) → length ls ≡ length cs → counts_of (cut ls cs ts) ≡ cs
counts-cut [] [] ts h = refl
counts-cut [] (c ∷ cs) ts h = absurd (omega arith)
counts-cut (l ∷ ls) [] ts h = absurd (omega arith)
counts-cut (l ∷ ls) (c ∷ cs) ts h = ap (λ (x : List ℕ). c ∷ x) (counts-cut ls cs (drop l ts) (omega arith))

pub lengths-cut : (ls cs ts : List ℕ) → length ls ≡ length cs → total ls ≤ length ts → lengths_of (cut ls cs ts) ≡ ls
lengths-cut [] cs ts h room = refl
lengths-cut (l ∷ ls) [] ts h room = absurd (omega arith)
lengths-cut (l ∷ ls) (c ∷ cs) ts h room =
    ap₂ (λ (k : ℕ) (x : List ℕ). k ∷ x) (length-take-le l ts (omega arith))
    (lengths-cut ls cs (drop l ts) (omega arith) (simp length-drop (omega arith)))

pub texts-cut : (ls cs ts : List ℕ) → length ls ≡ length cs → texts (cut ls cs ts) ≡ take (total ls) ts
texts-cut [] cs ts h = refl
texts-cut (l ∷ ls) [] ts h = absurd (omega arith)
texts-cut (l ∷ ls) (c ∷ cs) ts h = ap (λ (x : List ℕ). take l ts ++ x) (texts-cut ls cs (drop l ts) (omega arith)) ∙ sym (take-add l (total ls) ts)

-- the texts with one entry replaced
pub texts-set : (ls cs ts : List ℕ) (k : ℕ) (e : Entry) → length ls ≡ length cs → k < length ls
    → texts (set (cut ls cs ts) k e) ≡ front ts (total (take k ls)) (get_or ls k 0) (total ls) e.text
texts-set [] cs ts k e h hk = absurd (not-suc-le-zero hk)
texts-set (l ∷ ls) [] ts k e h hk = absurd (omega arith)
texts-set (l ∷ ls) (c ∷ cs) ts zero e h hk =
    let f : total ls ≡ l + total ls - (0 + l) = omega arith in
    let g : l ≡ 0 + l = omega arith in
    ap (λ (x : List ℕ). e.text ++ x) (texts-cut ls cs (drop l ts) (omega arith))
    ∙ ap₂ (λ (i j : ℕ). e.text ++ take i (drop j ts)) f g
texts-set (l ∷ ls) (c ∷ cs) ts (suc k) e h hk =
    let s : ℕ = total (take k ls) in
    let o : ℕ = get_or ls k 0 in
    let u : ℕ = total ls in
    let f : u - (s + o) ≡ l + u - (l + s + o) = omega arith in
    let g : l + (s + o) ≡ l + s + o = omega arith in
    ap (λ (x : List ℕ). take l ts ++ x) (texts-set ls cs (drop l ts) k e (omega arith) (le_of_suc-le-suc hk))
    ∙ sym (append_assoc (take l ts) (take s (drop l ts) ++ e.text) (take (u - (s + o)) (drop (s + o) (drop l ts))))
    ∙ ap (λ (x : List ℕ). x ++ take (u - (s + o)) (drop (s + o) (drop l ts))) (sym (append_assoc (take l ts) (take s (drop l ts)) e.text))
    ∙ ap₂ (λ (x y : List ℕ). x ++ e.text ++ take (u - (s + o)) y) (sym (take-add l s ts)) (drop-drop (s + o) l ts)
    ∙ ap₂ (λ (i j : ℕ). take (l + s) ts ++ e.text ++ take i (drop j ts)) f g

pub rooms-eq : {ls ls' cs cs' ts ts' : List ℕ} → ls ≡ ls' → cs ≡ cs' → ts ≡ ts' → rooms ls cs ts ≡ rooms ls' cs' ts'
rooms-eq p q r = λ i. record { lengths = p i; counts = q i; text = r i }

-- the rooms with entries put back, list by list
pub put_parts : (p : StringPool) (w : Rooms) (es : List Entry)
    → put_back p w es
    ≡ rooms (lengths_of es ++ drop (length es) w.lengths) (counts_of es ++ drop (length es) w.counts)
    (texts es ++ replicate (total (take p.num_strings w.lengths) - length (texts es)) 0
    ++ drop (max (total (take p.num_strings w.lengths)) (length (texts es))) w.text)
put_parts p w es =
    let u : ℕ = total (take p.num_strings w.lengths) in
    let l : ℕ = length (texts es) in
    let z : List ℕ = replicate (u - l) 0 in
    let m : length (texts es ++ z) ≡ max u l = omega (arith, length-append (texts es) z, length-replicate {A = ℕ} (u - l) 0) in
    rooms-eq (ap (λ (i : ℕ). lengths_of es ++ drop i w.lengths) (length-map es (λ (e : Entry). length e.text)))
    (ap (λ (i : ℕ). counts_of es ++ drop i w.counts) (length-map es (λ (e : Entry). e.count)))
    (ap (λ (i : ℕ). texts es ++ z ++ drop i w.text) m)

put_set : (n : ℕ) (l : List ℕ) (k v : ℕ) → n ≤ length l → k < n → set (take n l) k v ++ drop n l ≡ set l k v
put_set n l k v h hk =
    let hk' : k < length (take n l) = simp length-take-le (omega arith) in
    sym (set-append_left (take n l) (drop n l) k v hk') ∙ ap (λ (x : List ℕ). set x k v) (take-append-drop n l)

-- The texts with one entry replaced.
module _ (n : ℕ) (w : Rooms) (fit : Fit n w) (k : ℕ) (hk : k < n) where
  pub texts-at : (e : Entry) → texts (set (first_entries n w) k e)
      ≡ front w.text (total (take k w.lengths)) (get_or w.lengths k 0) (total (take n w.lengths)) e.text
  texts-at e =
      let hl : k < length (take n w.lengths) = omega (arith, length-take-le n w.lengths fit.lengths) in
      texts-set (take n w.lengths) (take n w.counts) w.text k e (both n w fit) hl
      ∙ rw (get_or-take n w.lengths k 0 hk, take-take k n w.lengths (omega arith))

  pub length-texts_at : (e : Entry) → length (texts (set (first_entries n w) k e))
      ≡ total (take n w.lengths) - get_or w.lengths k 0 + length e.text
  length-texts_at e =
      ap length (texts-at e)
      ∙ length_front w.text (total (take k w.lengths)) (get_or w.lengths k 0) (total (take n w.lengths)) e.text
      (total-in w.lengths k n hk fit.lengths) fit.text

  -- a splice of the bytes that are there changes nothing
  pub splice-same :
      splice w.text (total (take k w.lengths)) (get_or w.lengths k 0) (total (take n w.lengths))
      (take (get_or w.lengths k 0) (drop (total (take k w.lengths)) w.text))
      ≡ w.text
  unfolding splice
  splice-same =
      let ts : List ℕ = w.text in
      let s : ℕ = total (take k w.lengths) in
      let o : ℕ = get_or w.lengths k 0 in
      let u : ℕ = total (take n w.lengths) in
      let inside : s + o ≤ u = total-in w.lengths k n hk fit.lengths in
      let lt : length (take o (drop s ts)) ≡ o = length-take-le o (drop s ts) (simp length-drop (omega (arith, fit.text))) in
      let z : o - length (take o (drop s ts)) ≡ 0 = omega arith in
      let m : max u (u - o + length (take o (drop s ts))) ≡ u = omega arith in
      let r : s + o + (u - (s + o)) ≡ u = omega arith in
      ap₂ (λ (i j : ℕ). take s ts ++ take o (drop s ts) ++ take (u - (s + o)) (drop (s + o) ts) ++ replicate i 0 ++ drop j ts) z m
      ∙ ap (λ (x : List ℕ). x ++ drop u ts) (append-nil (take s ts ++ take o (drop s ts) ++ take (u - (s + o)) (drop (s + o) ts)))
      ∙ ap (λ (x : List ℕ). x ++ take (u - (s + o)) (drop (s + o) ts) ++ drop u ts) (sym (take-add s o ts))
      ∙ ap (λ (x : List ℕ). x ++ drop u ts) (sym (take-add (s + o) (u - (s + o)) ts) ∙ ap (λ (i : ℕ). take i ts) r)
      ∙ take-append-drop u ts

  -- an entry's text is as long as its length says
  pub length_at : length (get_or (first_entries n w) k none).text ≡ get_or w.lengths k 0
  length_at =
      let s : ℕ = total (take k w.lengths) in
      let o : ℕ = get_or w.lengths k 0 in
      let inside : s + o ≤ total (take n w.lengths) = total-in w.lengths k n hk fit.lengths in
      ap (λ (x : Entry). length x.text) (entry-at n w fit k hk) ∙ length-take-le o (drop s w.text) (simp length-drop (omega (arith, fit.text)))

  -- another count does not change how long the texts are
  pub length-same : (c : ℕ) → length (texts (set (first_entries n w) k (record { text = (get_or (first_entries n w) k none).text; count = c })))
      ≡ total (take n w.lengths)
  length-same c =
      omega (
        arith,
        length_at,
        total-in w.lengths k n hk fit.lengths,
        length-texts_at (record { text = (get_or (first_entries n w) k none).text; count = c }),
      )

  -- the entry's count, and its text
  pub count_at : (get_or (first_entries n w) k none).count ≡ get_or w.counts k 0
  count_at = ap (λ (e : Entry). e.count) (entry-at n w fit k hk)

module _ (n : ℕ) (w : Rooms) (fit : Fit n w) (k : ℕ) where
  past : n ≤ k → get_or (first_entries n w) k none ≡ none
  past h = get_or-eq_default (first_entries n w) none (omega (arith, length-entries n w fit, h))

  pub text-past : n ≤ k → ◌≡◌ {A = List ℕ} [] (get_or (first_entries n w) k none).text
  text-past h = sym (ap (λ (e : Entry). e.text) (past h))

  pub count_same : get_or (take n w.counts) k 0 ≡ (get_or (first_entries n w) k none).count
  count_same = go (leb n k) refl
    where
      go : (b : Bool) → leb n k ≡ b → get_or (take n w.counts) k 0 ≡ (get_or (first_entries n w) k none).count
      go true e =
          get_or-eq_default (take n w.counts) 0 (omega (arith, length-take-le n w.counts fit.counts, leb-true n k e))
          ∙ sym (ap (λ (x : Entry). x.count) (past (leb-true n k e)))
      go false e = get_or-take n w.counts k 0 (leb-false n k e) ∙ sym (count_at n w fit k (leb-false n k e))

-- The rooms with one entry replaced: one store to the lengths, one to the counts, and the text spliced.
module _ (p : StringPool) (w : Rooms) (fit : Fit p.num_strings w) (k : ℕ) (hk : k < p.num_strings) where
  abbrev n : ℕ
  n = p.num_strings

  pub put_one : (e : Entry)
      → total (take n w.lengths) - get_or w.lengths k 0 + length e.text ≤ length w.text
      → put_back p w (set (first_entries n w) k e)
      ≡ rooms (set w.lengths k (length e.text)) (set w.counts k e.count)
      (splice w.text (total (take k w.lengths)) (get_or w.lengths k 0) (total (take n w.lengths)) e.text)
  unfolding splice
  put_one e room =
      let es : List Entry = first_entries n w in
      let s : ℕ = total (take k w.lengths) in
      let o : ℕ = get_or w.lengths k 0 in
      let u : ℕ = total (take n w.lengths) in
      let inside : s + o ≤ u = total-in w.lengths k n hk fit.lengths in
      let len : length (set es k e) ≡ n = length-set es k e ∙ length-entries n w fit in
      let tl : length (texts (set es k e)) ≡ u - o + length e.text = length-texts_at n w fit k hk e in
      let z : u - length (texts (set es k e)) ≡ o - length e.text = omega arith in
      put_parts p w (set es k e)
      ∙ rooms-eq
      (ap₂ (λ (x : List ℕ) (i : ℕ). x ++ drop i w.lengths)
      (map-set (λ (x : Entry). length x.text) es k e
      ∙ ap (λ (x : List ℕ). set x k (length e.text)) (lengths-cut (take n w.lengths) (take n w.counts) w.text (both n w fit) fit.text))
      len
      ∙ put_set n w.lengths k (length e.text) fit.lengths hk)
      (ap₂ (λ (x : List ℕ) (i : ℕ). x ++ drop i w.counts)
      (map-set (λ (x : Entry). x.count) es k e
      ∙ ap (λ (x : List ℕ). set x k e.count) (counts-cut (take n w.lengths) (take n w.counts) w.text (both n w fit)))
      len
      ∙ put_set n w.counts k e.count fit.counts hk)
      (ap₂ (λ (i : ℕ) (j : ℕ). texts (set es k e) ++ replicate i 0 ++ drop (max u j) w.text) z tl
      ∙ ap (λ (x : List ℕ). x ++ replicate (o - length e.text) 0 ++ drop (max u (u - o + length e.text)) w.text) (texts-at n w fit k hk e))

  -- the rooms with one entry's count changed: one store to the counts
  pub put_count : (c : ℕ)
      → put_back p w (set (first_entries n w) k (record { text = (get_or (first_entries n w) k none).text; count = c }))
      ≡ rooms w.lengths (set w.counts k c) w.text
  put_count c =
      let s : ℕ = total (take k w.lengths) in
      let o : ℕ = get_or w.lengths k 0 in
      let t : List ℕ = take o (drop s w.text) in
      let inside : s + o ≤ total (take n w.lengths) = total-in w.lengths k n hk fit.lengths in
      let lt : length t ≡ o = length-take-le o (drop s w.text) (simp length-drop (omega (arith, fit.text))) in
      ap (λ (x : List ℕ). put_back p w (set (first_entries n w) k (record { text = x; count = c }))) (ap (λ (x : Entry). x.text) (entry-at n w fit k hk))
      ∙ put_one (record { text = t; count = c }) (omega (arith, fit.text))
      ∙ rooms-eq (ap (set w.lengths k) lt ∙ set-get_or w.lengths k 0) refl (splice-same n w fit k hk)

-- ---- an entry added at the end

pub texts-append : (xs ys : List Entry) → texts (xs ++ ys) ≡ texts xs ++ texts ys
texts-append [] ys = refl
texts-append (x ∷ xs) ys = ap (λ (r : List ℕ). x.text ++ r) (texts-append xs ys) ∙ sym (append_assoc x.text (texts xs) (texts ys))

put_snoc : (n : ℕ) (l : List ℕ) (v : ℕ) → n < length l → take n l ++ (v ∷ []) ++ drop (suc n) l ≡ set l n v
put_snoc n l v h = append_assoc (take n l) (v ∷ []) (drop (suc n) l) ∙ sym (set_split l n v h)

module _ (n : ℕ) (w : Rooms) (fit : Fit n w) (e : Entry) where
  pub texts-added : texts (first_entries n w ++ (e ∷ [])) ≡ take (total (take n w.lengths)) w.text ++ e.text
  texts-added =
      texts-append (first_entries n w) (e ∷ [])
      ∙ ap₂ (λ (x y : List ℕ). x ++ y) (texts-cut (take n w.lengths) (take n w.counts) w.text (both n w fit)) (append-nil e.text)

  pub length-texts_added : length (texts (first_entries n w ++ (e ∷ []))) ≡ total (take n w.lengths) + length e.text
  length-texts_added =
      ap length texts-added ∙ length-append (take (total (take n w.lengths)) w.text) e.text
      ∙ ap (λ (i : ℕ). i + length e.text) (length-take-le (total (take n w.lengths)) w.text fit.text)

module _ (p : StringPool) (w : Rooms) (fit : Fit p.num_strings w) (e : Entry) where
  -- the rooms with an entry added: one store to the lengths, one to the counts, and the text written after the used part
  pub put_added : p.num_strings < length w.lengths → p.num_strings < length w.counts
      → put_back p w (entries_of p w ++ (e ∷ []))
      ≡ rooms (set w.lengths p.num_strings (length e.text)) (set w.counts p.num_strings e.count)
      (splice w.text (total (take p.num_strings w.lengths)) 0 (total (take p.num_strings w.lengths)) e.text)
  unfolding splice
  put_added hl hc =
      let n : ℕ = p.num_strings in
      let es : List Entry = entries_of p w in
      let u : ℕ = total (take n w.lengths) in
      let t : List ℕ = e.text in
      let all : List ℕ = texts (es ++ (e ∷ [])) in
      let len : length (es ++ (e ∷ [])) ≡ suc n = length-append es (e ∷ []) ∙ ap (λ (i : ℕ). i + 1) (length-entries n w fit) ∙ add-one n in
      let z : u - length all ≡ 0 - length t = omega (arith, length-texts_added n w fit e) in
      let m : max u (length all) ≡ max u (u - 0 + length t) = omega (arith, length-texts_added n w fit e) in
      let none-later : 0 ≡ u - (u + 0) = omega arith in
      put_parts p w (es ++ (e ∷ []))
      ∙ rooms-eq
      (ap₂ (λ (x : List ℕ) (i : ℕ). x ++ drop i w.lengths)
      (map_snoc (λ (x : Entry). length x.text) es e
      ∙ ap (λ (x : List ℕ). x ++ (length t ∷ [])) (lengths-cut (take n w.lengths) (take n w.counts) w.text (both n w fit) fit.text))
      len
      ∙ put_snoc n w.lengths (length t) hl)
      (ap₂ (λ (x : List ℕ) (i : ℕ). x ++ drop i w.counts)
      (map_snoc (λ (x : Entry). x.count) es e
      ∙ ap (λ (x : List ℕ). x ++ (e.count ∷ [])) (counts-cut (take n w.lengths) (take n w.counts) w.text (both n w fit)))
      len
      ∙ put_snoc n w.counts e.count hc)
      (ap₂ (λ (i j : ℕ). all ++ replicate i 0 ++ drop j w.text) z m
      ∙ ap (λ (x : List ℕ). x ++ replicate (0 - length t) 0 ++ drop (max u (u - 0 + length t)) w.text)
      (texts-added n w fit e ∙ sym (append-nil (take u w.text ++ t)) ∙ ap (λ (i : ℕ). take u w.text ++ t ++ take i (drop (u + 0) w.text)) none-later))

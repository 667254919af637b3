-- Decoding an encoded name returns name and flag exactly when no unit lies in 0x3800-0x483F and a plain name does not begin with 0x4840.
use Prim.Native.Nat.{ℕ, zero, suc, ◌+◌, ◌*◌, ◌-◌, ◌/◌, ◌%◌, ◌≤◌, ◌<◌, suc-le-suc}
use mathlib.Core.Path.{◌≡◌, refl, sym, ◌∙◌}
use mathlib.Core.Bool.{true, false, true≢false}
use mathlib.Core.List.{List, [], ◌∷◌, ◌++◌}
use Rattle.std.specs.Prelude.{Option, None, Some}
use native.Mathlib.Nat.{le_of_suc-le-suc, not-suc-le-zero}
use native.Mathlib.Decide.{dec_le}
use native.Mathlib.Omega.{arith}
use lib.ListN.{length, get_or}
use borrow.Author.Tests.{ne_eqb, eqb-false}
use Rattle.streamname.specs.Letters.{to_b64_lem, from_b64_lem}
use Rattle.streamname.specs.Names.{encoded, undone, decoded, is_table, decoded_name}
use Rattle.streamname.specs.Promises.{Coded, Returns, RoundTrip}
use Rattle.streamname.proofs.LetterLaws.{letter_below, letter_back, from-small, letter_small}
use Rattle.streamname.proofs.EncodeLaws.{passes, lone-last, lone, paired}
use Rattle.streamname.proofs.DecodeLaws.{undone-two, undone-one, undone-other}

-- a name taken apart as `encoded` takes it: a unit that passes, a lone letter, or a pair of letters, and the rest
data Greedy : List ℕ → Type 0 where
  end : Greedy []
  other : {u : ℕ} {rest : List ℕ} → to_b64_lem u ≡ None → Greedy rest → Greedy (u ∷ rest)
  single : {u a : ℕ} {rest : List ℕ} → to_b64_lem u ≡ Some a → encoded (u ∷ rest) ≡ (0x4800 + a) ∷ encoded rest → Greedy rest → Greedy (u ∷ rest)
  double : {u a v b : ℕ} {rest : List ℕ} → to_b64_lem u ≡ Some a → to_b64_lem v ≡ Some b → Greedy rest → Greedy (u ∷ v ∷ rest)

greedy : (l : List ℕ) → Greedy l
greedy [] = end
greedy (u ∷ []) = go (to_b64_lem u) refl
  where
    go : (p : Option ℕ) → to_b64_lem u ≡ p → Greedy (u ∷ [])
    go (Some a) e = single e (lone-last u a e) end
    go None e = other e end
greedy (u ∷ v ∷ r) = go (to_b64_lem u) (to_b64_lem v) refl refl (greedy r) (greedy (v ∷ r))
  where
    go : (p q : Option ℕ) → to_b64_lem u ≡ p → to_b64_lem v ≡ q → Greedy r → Greedy (v ∷ r) → Greedy (u ∷ v ∷ r)
    go (Some a) (Some b) e f g h = double e f g
    go (Some a) None e f g h = single e (lone u a v r e f) h
    go None (Some b) e f g h = other e h
    go None None e f g h = other e h

-- what became of each piece is undone
undone-letter : (u a : ℕ) → to_b64_lem u ≡ Some a → undone (0x4800 + a) ≡ u ∷ []
undone-letter u a e =
    let h = letter_below u a e in
    let low : 0x4800 + a - 0x4800 ≡ a = omega arith in
    sym (undone-one (0x4800 + a) (omega arith) (omega arith)) ∙ rw (low, letter_back u a e)

undone-pair : (u a v b : ℕ) → to_b64_lem u ≡ Some a → to_b64_lem v ≡ Some b → undone (0x3800 + 64 * b + a) ≡ u ∷ v ∷ []
undone-pair u a v b e f =
    let h = letter_below u a e in
    let k = letter_below v b f in
    let w = 0x3800 + 64 * b + a in
    let low : (w - 0x3800) % 64 ≡ a = omega arith in
    let high : (w - 0x3800) / 64 ≡ b = omega arith in
    sym (undone-two w (omega arith) (omega arith)) ∙ rw (low, high, letter_back u a e, letter_back v b f)

-- no unit of a name is coded
Clear : List ℕ → Type 0
Clear l = (k : ℕ) → k < length l → ¬ Coded (get_or l k 0)

clear_nil : Clear []
unfolding Clear
clear_nil k l = absurd (not-suc-le-zero l)

module _ (u : ℕ) (l : List ℕ) where
  clear_cons : ¬ Coded u → Clear l → Clear (u ∷ l)
  unfolding Clear
  clear_cons h t zero p = h
  clear_cons h t (suc k) p = t k (le_of_suc-le-suc p)

  clear_head : Clear (u ∷ l) → ¬ Coded u
  unfolding Clear
  clear_head t = t 0 (omega arith)

  clear_tail : Clear (u ∷ l) → Clear l
  unfolding Clear
  clear_tail t k p = t (suc k) (suc-le-suc p)

clear_letter : (u a : ℕ) → to_b64_lem u ≡ Some a → ¬ Coded u
clear_letter u a e h = omega (arith, letter_small u a e)

undone-clear : (u : ℕ) → ¬ Coded u → undone u ≡ u ∷ []
undone-clear u h = go (dec_le u 0x483F)
  where
    go : Dec (u ≤ 0x483F) → undone u ≡ u ∷ []
    go (yes q) = sym (undone-other u (λ p. absurd (h (p, q))))
    go (no q) = sym (undone-other u (λ p. omega arith))

-- there and back, a piece at a time
module _ (u : ℕ) (rest : List ℕ) where
  turn_other : to_b64_lem u ≡ None → decoded (encoded (u ∷ rest)) ≡ undone u ++ decoded (encoded rest)
  unfolding decoded
  turn_other e = rw (passes u rest e)

  turn_single : (a : ℕ) → to_b64_lem u ≡ Some a → encoded (u ∷ rest) ≡ (0x4800 + a) ∷ encoded rest → decoded (encoded (u ∷ rest)) ≡ u ∷ decoded (encoded rest)
  unfolding decoded
  turn_single a e p = rw (p, undone-letter u a e)

  turn_double : (a v b : ℕ) → to_b64_lem u ≡ Some a → to_b64_lem v ≡ Some b → decoded (encoded (u ∷ v ∷ rest)) ≡ u ∷ v ∷ decoded (encoded rest)
  unfolding decoded
  turn_double a v b e f = rw (paired u a v b rest e f, undone-pair u a v b e f)

-- where no unit is coded, the name comes back
back : {l : List ℕ} → Greedy l → Clear l → decoded (encoded l) ≡ l
unfolding encoded decoded
back end t = refl
back (other {u} {rest} e g) t = rw (turn_other u rest e, undone-clear u (clear_head u rest t), back g (clear_tail u rest t))
back (single {u} {a} {rest} e p g) t = rw (turn_single u rest a e p, back g (clear_tail u rest t))
back (double {u} {a} {v} {b} {rest} e f g) t = rw (turn_double u rest a v b e f, back g (clear_tail v rest (clear_tail u (v ∷ rest) t)))

-- a coded unit does not come back: it is undone to a letter
lost : (u : ℕ) (x y : List ℕ) → Coded u → undone u ++ x ≡ u ∷ y → ⊥
lost u x y h q = go (dec_le u 0x47FF)
  where
    letter_first : (n : ℕ) (z : List ℕ) → from_b64_lem n ∷ z ≡ u ∷ y → ⊥
    letter_first n z e = let same : from_b64_lem n ≡ u = cc in omega (arith, from-small n)

    go : Dec (u ≤ 0x47FF) → ⊥
    go (yes p) = letter_first ((u - 0x3800) % 64) (from_b64_lem ((u - 0x3800) / 64) ∷ x) (rw (← undone-two u h.0 p) at q)
    go (no p) = letter_first (u - 0x4800) x (rw (← undone-one u (omega arith) h.1) at q)

-- where the name comes back, no unit is coded
forth : {l : List ℕ} → Greedy l → decoded (encoded l) ≡ l → Clear l
forth end q = clear_nil
forth (other {u} {rest} e g) q =
    let t = sym (turn_other u rest e) ∙ q in
    let clear : ¬ Coded u = λ h. lost u _ _ h t in
    let tail : u ∷ decoded (encoded rest) ≡ u ∷ rest = rw (undone-clear u clear) at t in
    clear_cons u rest clear (forth g (cc tail))
forth (single {u} {a} {rest} e p g) q =
    clear_cons u rest (clear_letter u a e) (forth g (cc (sym (turn_single u rest a e p) ∙ q)))
forth (double {u} {a} {v} {b} {rest} e f g) q =
    clear_cons u (v ∷ rest) (clear_letter u a e) (clear_cons v rest (clear_letter v b f) (forth g (cc (sym (turn_double u rest a v b e f) ∙ q))))

-- encoding neither makes nor hides a table's prefix
marked : {l : List ℕ} → Greedy l → is_table (encoded l) ≡ is_table l
unfolding encoded
marked end = refl
marked (other {u} {rest} e g) = rw (passes u rest e)
marked (single {u} {a} {rest} e p g) =
    let h = letter_below u a e in
    let k = letter_small u a e in
    rw (p, ne_eqb (0x4800 + a) 0x4840 (omega arith), ne_eqb u 0x4840 (omega arith))
marked (double {u} {a} {v} {b} {rest} e f g) =
    let h = letter_below u a e in
    let j = letter_below v b f in
    let k = letter_small u a e in
    rw (paired u a v b rest e f, ne_eqb (0x3800 + 64 * b + a) 0x4840 (omega arith), ne_eqb u 0x4840 (omega arith))

pub round_trip : RoundTrip
unfolding Clear
round_trip name true = (λ p. (forth (greedy name) p.0, λ e. absurd (true≢false e)), λ r. (back (greedy name) r.0, refl))
round_trip name false = (there, again)
  where
    there : (decoded_name (encoded name) ≡ name) × (is_table (encoded name) ≡ false) → Returns name false
    there p = (forth (greedy name) (rw p.1 at p.0), λ _. eqb-false _ _ (sym (marked (greedy name)) ∙ p.1))

    again : Returns name false → (decoded_name (encoded name) ≡ name) × (is_table (encoded name) ≡ false)
    again r =
        let plain : is_table (encoded name) ≡ false = marked (greedy name) ∙ ne_eqb (get_or name 0 0) 0x4840 (r.1 refl) in
        (rw plain (back (greedy name) r.0), plain)

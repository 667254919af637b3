-- Laws of the 64 letters: the code's table has the list's places, and a letter's number gives it back. Each is one computed test: over
-- the units below 0x7B, past which there is no letter, or over all 64 numbers.
use Prim.Native.Nat.{ℕ, ◌≤◌, ◌<◌}
use mathlib.Core.Path.{◌≡◌, refl, sym, ap, ◌∙◌}
use mathlib.Core.Bool.{Bool, true, false, ◌&&◌}
use mathlib.Core.List.{List, [], ◌∷◌}
use Rattle.std.specs.Prelude.{Option, None, Some}
use native.Mathlib.Omega.{arith}
use native.Mathlib.Nat.{zero-add}
use native.Mathlib.Decide.{dec_lt}
use lib.Dec.{T, leb, ltb, eqb, ltb→lt, eqb→eq}
use lib.ListN.{length, get_or, get_or-eq_default}
use borrow.Author.Tests.{le-leb, lt-leb, ne_eqb, leb-true}
use Rattle.common.specs.Choice.{◌<?◌}
use Rattle.common.proofs.Below.{both, all_below, each}
use Rattle.common.proofs.Lists.{map-from}
use Rattle.streamname.specs.Letters.{letters, place_in, to_b64_lem, from_b64_lem}
use Rattle.streamname.specs.Names.{between}
use Rattle.streamname.specs.inner.Packing.{or_sixty_four, letter_numbers}

pub inside : (low high u : ℕ) → low ≤ u → u ≤ high → between low high u ≡ true
inside low high u p q = simp (le-leb low u p, le-leb u high q)

pub outside : (low high u : ℕ) → (low ≤ u → high < u) → between low high u ≡ false
outside low high u h = go (leb low u) refl
  where
    go : (t : Bool) → leb low u ≡ t → t && leb u high ≡ false
    go true e = lt-leb u high (h (leb-true low u e))
    go false e = refl

-- ---- the number of a letter, as the table has it

pub looked_up : (u : ℕ) → u < 128 → get_or letter_numbers u 0 ≡ or_sixty_four (to_b64_lem u)
unfolding letter_numbers
looked_up u h = map-from (λ v. or_sixty_four (to_b64_lem v)) 0 128 u 0 h ∙ ap (λ v. or_sixty_four (to_b64_lem v)) (zero-add u)

abbrev all_under_lem : ℕ → List ℕ → Bool
all_under_lem b [] = true
all_under_lem b (x ∷ xs) = ltb x b && all_under_lem b xs

absent : (l : List ℕ) (b u : ℕ) → T (all_under_lem b l) → b ≤ u → place_in l u ≡ None
absent [] b u t h = refl
absent (x ∷ xs) b u t h =
    let s = both (ltb x b) (all_under_lem b xs) t in
    rw (ne_eqb u x (omega (arith, ltb→lt x b s.0)), absent xs b u s.1 h)

all_under : T (all_under_lem 0x7B letters)
unfolding letters
all_under = tt

-- past the last letter there is none
pub past : (u : ℕ) → 0x7A < u → None ≡ to_b64_lem u
past u h = sym (absent letters 0x7B u all_under h)

-- nor is the unit 0, which is read past the end of a name
pub past_end : (name : List ℕ) (at : ℕ) → length name ≤ at → None ≡ to_b64_lem (get_or name at 0)
unfolding letters
past_end name at h = rw (get_or-eq_default name 0 h)

-- ---- the letter of a number

all-small : T (all_below (λ n. from_b64_lem n <? 0x7B) 64)
unfolding letters
all-small = tt

how_many : length letters ≡ 64
unfolding letters
how_many = refl

-- every letter is a unit below 0x7B
pub from-small : (n : ℕ) → from_b64_lem n < 0x7B
from-small n = go (dec_lt n 64)
  where
    go : Dec (n < 64) → from_b64_lem n < 0x7B
    go (yes h) = ltb→lt (from_b64_lem n) 0x7B (each (λ m. from_b64_lem m <? 0x7B) 64 all-small n h)
    go (no h) =
        let past : length letters ≤ n = omega (arith, how_many) in
        rw (get_or-eq_default letters 0 past) (omega arith)

-- ---- a letter's number is below 64, and gives the letter back

abbrev gives_back : ℕ → Option ℕ → Bool
gives_back u None = true
gives_back u (Some a) = ltb a 64 && eqb (from_b64_lem a) u

abbrev back_right : ℕ → Bool
back_right u = gives_back u (to_b64_lem u)

all_back : T (all_below back_right 0x7B)
unfolding letters
all_back = tt

module _ (u a : ℕ) (e : to_b64_lem u ≡ Some a) where
  back : T (back_right u)
  back = go (dec_lt u 0x7B)
    where
      go : Dec (u < 0x7B) → T (back_right u)
      go (yes h) = each back_right 0x7B all_back u h
      go (no h) = rw (absent letters 0x7B u all_under (omega arith)) tt

  letter : T (ltb a 64) × T (eqb (from_b64_lem a) u)
  letter = both (ltb a 64) (eqb (from_b64_lem a) u) (rw e at back)

  pub letter_below : a < 64
  letter_below = ltb→lt a 64 letter.0

  pub letter_back : from_b64_lem a ≡ u
  letter_back = eqb→eq (from_b64_lem a) u letter.1

  pub letter_small : u < 0x7B
  letter_small = rw letter_back at (from-small a)

-- ---- a number of the table says which letter its unit is, or that it is none

module _ (u n : ℕ) (e : n ≡ or_sixty_four (to_b64_lem u)) where
  pub is-letter : n < 64 → Some n ≡ to_b64_lem u
  is-letter h = go (to_b64_lem u) refl
    where
      go : (x : Option ℕ) → to_b64_lem u ≡ x → Some n ≡ x
      go None p = absurd (let q : n ≡ 64 = rw p at e in omega arith)
      go (Some a) p = ap Some (rw p at e)

  pub is-other : 64 ≤ n → None ≡ to_b64_lem u
  is-other h = go (to_b64_lem u) refl
    where
      go : (x : Option ℕ) → to_b64_lem u ≡ x → None ≡ x
      go None p = refl
      go (Some a) p = absurd (let q : n ≡ a = rw p at e in omega (arith, letter_below u a p))

pub ruleset looked = (looked_up, past, is-letter, is-other)

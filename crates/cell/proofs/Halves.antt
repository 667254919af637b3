-- Signed sums by way of the unsigned: z + h is the natural number `biased h z`, and u - h is `unbiased h u`.
-- Every law is over the half h.
use mathlib.Core.Path.{◌≡◌, refl, ap}
use Prim.Native.Nat.{ℕ, zero, suc, ◌+◌, ◌-◌, ◌<◌, ◌≤◌, ◌^◌}
use native.Mathlib.Omega.{arith}
use native.Mathlib.Nat.{sub-zero, add-zero}
use mathlib.Core.Logic.{⊎_elim}
use lib.IntN.{ℤ, pos, negsuc, nat_abs, sub_ℕ, ◌+ℤ◌, ◌-ℤ◌}
use lib.Signed.{mag}
use borrow.Author.Tests.{lt-ltb, le-ltb, le-leb, lt-leb}
use mir.Syntax.{w32, w64}
use mir.Val.{SFits, to_z, of_z}
use mir.Facts.{to_z-of_z, to_z_pos, sfits_widen}
pub use Rattle.common.proofs.Bools.{lt_or_le}
use Rattle.common.specs.Answers.{Place, gives, refused}
use Rattle.cell.specs.Cells.{integer}
use Rattle.cell.specs.inner.Signed.{biased, unbiased}

pub sub-pos : (a b : ℕ) → b ≤ a → sub_ℕ a b ≡ pos (a - b)
sub-pos a b h = rw (le-ltb a b h)

pub sub-neg : (a b : ℕ) → a < b → sub_ℕ a b ≡ negsuc (b - suc a)
sub-neg a b h = rw (lt-ltb a b h)

pub add-biased : (h : ℕ) (z : ℤ) → mag z < h → z +ℤ pos h ≡ pos (biased h z)
add-biased h (pos n) m = refl
add-biased h (negsuc n) m = sub-pos h (suc n) m

pub biased-lt : (h : ℕ) (z : ℤ) → mag z < h → biased h z < h + h
biased-lt h (pos n) m = omega arith
biased-lt h (negsuc n) m = omega arith

-- an i32 widened to an i64 is the same number
pub widened : (z : ℤ) → SFits w32 z → to_z w64 (of_z w64 (to_z w32 (of_z w32 z))) ≡ z
widened z f = rw (to_z-of_z {w = w32} {z = z} f) (to_z-of_z {w = w64} {z = z} (sfits_widen {w = w32} {w' = w64} tt f))

-- the sum `n as i64 + h` of the code, for an i32 n with n + h not negative
module _ (h : ℕ) (z : ℤ) (f : SFits w32 z) (m : mag z < h) (small : h ≤ 2 ^ 32) where
  summed : to_z w64 (of_z w64 (to_z w32 (of_z w32 z))) +ℤ pos h ≡ pos (biased h z)
  summed = rw (widened z f) (add-biased h z m)

  below : biased h z < 2 ^ 63
  below = omega (arith, biased-lt h z m)

  pub sum_fits : SFits w64 (to_z w64 (of_z w64 (to_z w32 (of_z w32 z))) +ℤ pos h)
  sum_fits = rw summed (record { sfits = below })

  pub sum_is : to_z w64 (of_z w64 (to_z w64 (of_z w64 (to_z w32 (of_z w32 z))) +ℤ pos h)) ≡ pos (biased h z)
  sum_is = rw summed (to_z_pos w64 below)

-- ---- u - h

pub sub_is : (u h : ℕ) → pos u -ℤ pos h ≡ unbiased h u
sub_is u zero = rw (sub-pos u zero (omega arith), sub-zero, add-zero)
sub_is u (suc h) = refl

pub near_unbiased : (u h : ℕ) → 0 < u → u < h + h → nat_abs (unbiased h u) < h
near_unbiased u h p m =
    ⊎_elim (λ l. rw (sub-neg u h l) (omega arith)) (λ l. rw (sub-pos u h l) (omega arith)) (lt_or_le u h)

-- ---- a distance from 0 below half

pub near_mag : (h : ℕ) (z : ℤ) → nat_abs z < h → mag z < h
near_mag h (pos n) m = m
near_mag h (negsuc n) m = omega arith

module _ (half : ℕ) (at : Place) (z : ℤ) where
  pub integer-refused : half ≤ nat_abs z → integer half at z ≡ refused 17 at
  integer-refused m = rw (le-leb half (nat_abs z) m)

  pub integer-given : nat_abs z < half → integer half at z ≡ gives (biased half z)
  integer-given m = rw (lt-leb half (nat_abs z) m, add-biased half z (near_mag half z m))

-- the bias, taken off again
pub unbiased-biased : (h : ℕ) (z : ℤ) → mag z < h → unbiased h (biased h z) ≡ z
unbiased-biased h (pos n) m = rw (sub-pos (n + h) h (omega arith)) (ap pos (omega arith))
unbiased-biased h (negsuc n) m = rw (sub-neg (h - suc n) h (omega arith)) (ap negsuc (omega arith))

-- and put on again
pub biased-unbiased : (h u : ℕ) → biased h (unbiased h u) ≡ u
biased-unbiased h u =
    ⊎_elim (λ l. rw (sub-neg u h l) (omega arith)) (λ l. rw (sub-pos u h l) (omega arith)) (lt_or_le u h)

-- none is stored as 0
pub biased-some : (h : ℕ) (z : ℤ) → nat_abs z < h → 0 < biased h z
biased-some h (pos n) m = omega arith
biased-some h (negsuc n) m = omega arith

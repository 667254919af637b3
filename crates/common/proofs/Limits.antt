-- The tests of a signed reference number, by its sign.
use mathlib.Core.Path.{◌≡◌, refl}
use mathlib.Core.Bool.{true, false}
use lib.IntN.{ℤ, pos, negsuc}
use lib.Signed.{lt_z}
use Rattle.common.specs.Answers.{gives, refused, nowhere}
use Rattle.common.specs.Refs.{reference}

pub low : (z : ℤ) → lt_z z (pos 1) ≡ true → refused 8 nowhere ≡ reference nowhere z
low (pos n) e = simp e
low (negsuc n) e = refl

pub high : (z : ℤ) → lt_z z (pos 1) ≡ false → lt_z (pos 16777215) z ≡ true → refused 8 nowhere ≡ reference nowhere z
high (pos n) e f = simp (e, f)
high (negsuc n) e f = refl

pub within : (z : ℤ) → lt_z z (pos 1) ≡ false → lt_z (pos 16777215) z ≡ false → gives z ≡ reference nowhere z
within (pos n) e f = simp (e, f)
within (negsuc n) e f = cc

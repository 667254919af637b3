-- A number passes through 32 bits on its way.
use mathlib.Core.Path.{◌≡◌}
use lib.IntN.{ℤ}
use mir.Syntax.{w32}
use mir.Val.{SFits, to_z, of_z}
use mir.ValLaws.{to_z-of_z}

pub back : (z : ℤ) → SFits w32 z → to_z w32 (of_z w32 z) ≡ z
back z fits = to_z-of_z w32 z fits

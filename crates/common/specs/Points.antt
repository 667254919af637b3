-- Points: the limits of a reference number, and one off, computed from the definition.
use Rattle.std.specs.Prelude.{◌≡◌, ℤ, pos, negsuc}
use Rattle.common.specs.Answers.{Place, gives, refused}
use Rattle.common.specs.Refs.{reference}

-- wherever it stands
abbrev pub Given : ℤ → Type 0
Given n = (at : Place) → reference at n ≡ gives n

abbrev pub Refused : ℤ → Type 0
Refused n = (at : Place) → reference at n ≡ refused 8 at

-- "8 reference number below 1 or above 16,777,215"
abbrev pub Limits : Type 0
Limits = Refused (negsuc 2147483647) × Refused (negsuc 0) × Refused (pos 0) × Given (pos 1) × Given (pos 16777215) × Refused (pos 16777216) × Refused (pos 2147483647)

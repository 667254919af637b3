-- Points: numbers in bytes, and a writing at the end of its output and one off, computed from the definitions.
use Rattle.std.specs.Prelude.{◌≡◌, [], ◌∷◌}
use Rattle.common.specs.Answers.{gives, refused, nowhere}
use Rattle.little_endian.specs.Numbers.{bytes_of, read_answer, put_outcome}

-- "All numbers are little-endian."
abbrev pub LowestFirst : Type 0
LowestFirst = (bytes_of 4 0x01020304 ≡ 4 ∷ 3 ∷ 2 ∷ 1 ∷ []) × (bytes_of 3 0x010203 ≡ 3 ∷ 2 ∷ 1 ∷ []) × (bytes_of 2 0x010203 ≡ 3 ∷ 2 ∷ [])
    × (read_answer (4 ∷ 3 ∷ 2 ∷ 1 ∷ []) 0 4 ≡ 0x01020304) × (read_answer (4 ∷ 3 ∷ 2 ∷ 1 ∷ []) 1 2 ≡ 0x0203)

-- a byte past the end counts 0, and a fifth is not read
abbrev pub FourAtMost : Type 0
FourAtMost = (read_answer (1 ∷ 2 ∷ []) 1 4 ≡ 2) × (read_answer (1 ∷ 2 ∷ 3 ∷ 4 ∷ 5 ∷ []) 0 5 ≡ 0x04030201)

-- "7 output too small for the whole result": two bytes at 1 of three, and at 2
abbrev pub OutputRoom : Type 0
OutputRoom = (put_outcome 0x0102 2 (7 ∷ 7 ∷ 7 ∷ []) 1 ≡ (gives 2, 7 ∷ 2 ∷ 1 ∷ [])) × (put_outcome 0x0102 2 (7 ∷ 7 ∷ 7 ∷ []) 2 ≡ (refused 7 nowhere, 7 ∷ 7 ∷ 7 ∷ []))
    × (put_outcome 0x0102 2 (7 ∷ []) 2 ≡ (refused 7 nowhere, 7 ∷ []))

-- What is promised of numbers in bytes, over every width; document 01's widths are 2, 3 and 4.
use Rattle.std.specs.Prelude.{ℕ, ◌+◌, ◌≤◌, ◌<◌, ◌^◌, ◌≡◌, List, length, get_or}
use Rattle.common.specs.Answers.{gives}
use Rattle.little_endian.specs.Numbers.{read_answer, put_outcome}

abbrev pub AreBytes : List ℕ → Type 0
AreBytes s = (i : ℕ) → get_or s i 0 < 256

-- a number that fits its width, written where there is room, is read back
abbrev pub NumberReadsBack : Type 0
NumberReadsBack = (width n at : ℕ) (out : List ℕ) → width ≤ 4 → n < 256 ^ width → at + width ≤ length out
    → ((put_outcome n width out at).0 ≡ gives width) × (read_answer (put_outcome n width out at).1 at width ≡ n)

-- a number read and written to the same place leaves the bytes as they were
abbrev pub NumberWritesBack : Type 0
NumberWritesBack = (width at : ℕ) (s : List ℕ) → width ≤ 4 → AreBytes s → at + width ≤ length s
    → put_outcome (read_answer s at width) width s at ≡ (gives width, s)

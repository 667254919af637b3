-- Numbers in bytes, the lowest byte first, for every width.
use Rattle.std.specs.Prelude.{ℕ, zero, suc, ◌+◌, ◌*◌, ◌/◌, ◌%◌, min, List, [], ◌∷◌, length, get_or}
use Rattle.common.specs.Choice.{when◌then◌else◌, ◌<?◌}
use Rattle.common.specs.Lists.{over_at}
use Rattle.common.specs.Answers.{Answer, gives, refused, nowhere, outcome}

-- the lowest bytes of n, as many as the width says
abbrev pub bytes_of : ℕ → ℕ → List ℕ
bytes_of zero n = []
bytes_of (suc width) n = n % 256 ∷ bytes_of width (n / 256)

-- the number in the bytes from a place on, as many as the width says; a byte past the end counts 0
abbrev pub number_at : ℕ → List ℕ → ℕ → ℕ
number_at zero s at = 0
number_at (suc width) s at = get_or s at 0 + 256 * number_at width s (suc at)

-- `read`: a number of at most four bytes
abbrev pub read_answer : List ℕ → ℕ → ℕ → ℕ
read_answer s at width = number_at (min width 4) s at

-- `write`: 7 where the bytes have no room
abbrev pub put_answer : ℕ → ℕ → List ℕ → ℕ → Answer (ℕ × List ℕ)
put_answer n width out at = when length out <? at + width then refused 7 nowhere else gives (width, over_at at (bytes_of width n) out)

abbrev pub put_outcome : ℕ → ℕ → List ℕ → ℕ → Answer ℕ × List ℕ
put_outcome n width out at = outcome out (put_answer n width out at)

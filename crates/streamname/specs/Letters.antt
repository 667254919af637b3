-- Document 01, "Stream names": the 64 letters and their numbers.
use Rattle.std.specs.Prelude.{ℕ, suc, List, [], ◌∷◌, ◌++◌, get_or, Option, Some, None}
use Rattle.common.specs.Choice.{when◌then◌else◌, ◌=?◌}
use Rattle.common.specs.Lists.{from}

-- "Digits, A-Z, a-z, `.`, `_` are 0 to 63."
unfoldable pub letters : List ℕ
letters = from 0x30 10 ++ from 0x41 26 ++ from 0x61 26 ++ (0x2E ∷ 0x5F ∷ [])

abbrev pub next : Option ℕ → Option ℕ
next None = None
next (Some k) = Some (suc k)

-- the first place of a unit in a list, or none
abbrev pub place_in : List ℕ → ℕ → Option ℕ
place_in [] u = None
place_in (x ∷ xs) u = when u =? x then Some 0 else next (place_in xs u)

-- the number of a letter, or none where the unit is no letter
abbrev pub to_b64_lem : ℕ → Option ℕ
to_b64_lem u = place_in letters u

-- the letter of a number below 64
abbrev pub from_b64_lem : ℕ → ℕ
from_b64_lem n = get_or letters n 0

-- What the answers' words are in bytes.
use Rattle.std.specs.Prelude.{ℕ, ℤ, List, [], ◌∷◌, ◌++◌, Bool, true, ◌&&◌, codes, decimal}
use Rattle.std.specs.Fmt.{signed_decimal}
use Rattle.common.specs.Choice.{when◌then◌else◌, ◌=?◌, ◌≤?◌}
use Rattle.common.specs.Answers.{Place, nowhere, column, cell}

-- a mark and a signed number
abbrev pub marked : ℕ → ℤ → List ℕ
marked mark n = mark ∷ signed_decimal n

-- a cell as it is handed over: its kind and its number
abbrev pub cell_shown : ℕ → ℤ → List ℕ
cell_shown kind n =
    when kind =? 0 then 110 ∷ []
    else when kind =? 1 then marked 105 n
    else when kind =? 2 then marked 115 n
    else when kind =? 3 then 98 ∷ []
    else 107 ∷ decimal kind ++ marked 58 n

-- the crate panics where it gives 9 to 12 and 15
abbrev pub is_panic : ℕ → Bool
is_panic n = when (9 ≤? n) && (n ≤? 12) then true else n =? 15

abbrev pub spaced : ℕ → List ℕ
spaced n = 32 ∷ decimal n

-- a place: its column, then its row
abbrev pub place_shown : Place → List ℕ
place_shown nowhere = []
place_shown (column c) = spaced c
place_shown (cell r c) = spaced c ++ spaced r

-- a refusal by its number, and its place
abbrev pub refused_shown : ℕ → Place → List ℕ
refused_shown n place = (when is_panic n then codes "panic" else codes "error") ++ spaced n ++ place_shown place

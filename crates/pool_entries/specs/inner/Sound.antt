-- The judgement of a state, as the code makes it.
use Rattle.std.specs.Prelude.{ℕ, Bool, true, false, List, [], ◌∷◌, length, take, ◌==◌, nat_le, nat_lt}
use Rattle.common.specs.Choice.{when◌then◌else◌}
use Rattle.common.specs.Lists.{total}
use Rattle.pool_entries.specs.Entries.{Rooms}
use Rattle.common.specs.Answers.{Answer, gives, refused, nowhere}

-- an entry with count 0 has at most 65,535 bytes
abbrev pub small_b : ℕ → ℕ → Bool
small_b l c = when c == 0 then nat_le l 65535 else true

-- that of every entry
abbrev pub all_small_lem : List ℕ → List ℕ → Bool
all_small_lem [] cs = true
all_small_lem (l ∷ ls) [] = true
all_small_lem (l ∷ ls) (c ∷ cs) = when small_b l c then all_small_lem ls cs else false

-- every free entry is small, and the lengths sum to at most the text room
abbrev pub sums_b : ℕ → List ℕ → List ℕ → ℕ → Bool
sums_b n ls cs room = when all_small_lem (take n ls) (take n cs) then nat_le (total (take n ls)) room else false

-- the tests but for those of the lengths
unfoldable pub fits_b : ℕ → ℕ → List ℕ → List ℕ → Bool
fits_b n codepage ls cs =
    when nat_lt (length ls) n then false
    else when nat_lt (length cs) n then false
    else when nat_lt 16777215 n then false
    else nat_le codepage 2147483647

abbrev pub sound_b : ℕ → ℕ → Rooms → Bool
sound_b n codepage w = when fits_b n codepage w.lengths w.counts then sums_b n w.lengths w.counts (length w.text) else false

-- the bytes that the entries use
abbrev pub used_of : ℕ → Rooms → Answer ℕ
used_of n w = when sums_b n w.lengths w.counts (length w.text) then gives (total (take n w.lengths)) else refused 24 nowhere

-- What is promised of reading a pool stream.
use Rattle.std.specs.Prelude.{ℕ, ◌+◌, ◌≤◌, ◌≡◌, List, length, drop}
use Rattle.pool_stream.specs.Entries.{entries_in, pool_entries_lem}

-- as many steps as bytes suffice: with more of them the same entries are read, or the same entry is cut, so that 2 is given
-- exactly where an entry is
abbrev pub StepsSuffice : Type 0
StepsSuffice = (s : List ℕ) (more : ℕ) → 4 ≤ length s → entries_in (length s + more) (drop 4 s) ≡ pool_entries_lem s

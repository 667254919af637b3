-- Entries that fit their rooms.
use Rattle.std.specs.Prelude.{ℕ, ◌≤◌, length, take}
use Rattle.common.specs.Lists.{total}
use Rattle.pool_entries.specs.Entries.{Rooms}

-- n entries fit the rooms, and their lengths the text
pub record Fit (n : ℕ) (w : Rooms) : Type 0 where
  pub lengths : n ≤ length w.lengths
  pub counts : n ≤ length w.counts
  pub text : total (take n w.lengths) ≤ length w.text

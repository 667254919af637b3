-- What is known of a pool that was judged.
use Rattle.std.specs.Prelude.{ℕ, ◌≤◌, ◌≡◌, length, take}
use Rattle.common.specs.Lists.{total}
use Rattle.stringpool.specs.Pool.{Rooms}
use Rattle.stringpool.specs.inner.Entries.{Fit}
use Rattle.stringpool.specs.declared.pool.StringPool.{StringPool}

-- its entries fit its rooms, whose texts use that many bytes
pub record Judged (p : StringPool) (w : Rooms) (used : ℕ) : Type 0 where
  pub fit : Fit p.num_strings w
  pub sum : used ≡ total (take p.num_strings w.lengths)
  pub few : p.num_strings ≤ 16777215
  pub large : length w.text ≤ 268435455

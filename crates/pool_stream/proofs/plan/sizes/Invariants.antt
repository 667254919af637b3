use mathlib.Core.Path.{◌≡◌}
use Prim.Native.Nat.{◌+◌, ◌-◌, ◌*◌, ◌≤◌}
use lib.ListN.{length, drop}
use Rattle.pool_stream.specs.Entries.{entries_in, pool_entries_lem}
use Rattle.pool_stream.specs.Plan.{sizes_of}
use Rattle.pool_stream.proofs.Reading.{more}
use Rattle.pool_stream.proofs.plan.sizes.Given as goal

abbrev pub invariant-loop-length : goal.invariant-loop-length
invariant-loop-length l = (4 + 4 * l.n ≤ l.at) × (l.at ≤ length l.s) × (l.sum ≤ 4294967295 * l.n) × (sizes_of (pool_entries_lem l.s) ≡ more l.n l.sum (sizes_of (entries_in (length l.s - l.n) (drop l.at l.s))))

abbrev pub decreases-loop-length : goal.decreases-loop-length
decreases-loop-length l = length l.s - l.at

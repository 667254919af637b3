use Rattle.std.proofs.Common.{◌≡◌, ◌-◌, ◌≤◌, length}
use Rattle.pool_entries.specs.Rooms.{rooms_of}
use Rattle.pool_entries.specs.inner.Fit.{Fit}
use Rattle.pool_entries.specs.inner.Look.{SumTo, NoneUp}
use Rattle.pool_entries.proofs.choosing.scan.Given as goal

abbrev pub invariant-loop-i : goal.invariant-loop-i
invariant-loop-i l = (l.from ≤ l.i) × (l.i ≤ l.to) × (l.size ≡ length l.new) × SumTo l.lengths l.i l.start × (Fit l.fn.entries.n (rooms_of l.fn.entries.rooms) → NoneUp (rooms_of l.fn.entries.rooms) l.new l.from l.i)

abbrev pub decreases-loop-i : goal.decreases-loop-i
decreases-loop-i l = l.to - l.i

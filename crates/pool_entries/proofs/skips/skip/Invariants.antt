use Rattle.std.proofs.Common.{◌-◌}
use Rattle.pool_entries.specs.inner.Look.{PassedBy}
use Rattle.pool_entries.proofs.skips.skip.Given as goal

abbrev pub invariant-loop-s : goal.invariant-loop-s
invariant-loop-s l = PassedBy l.lengths l.size l.from l.to l.s.0 l.s.1

abbrev pub decreases-loop-s : goal.decreases-loop-s
decreases-loop-s l = l.to - l.s.0

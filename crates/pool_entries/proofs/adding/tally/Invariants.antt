use Rattle.std.proofs.Common.{◌≤◌}
use Rattle.pool_entries.specs.inner.Adding.{Tallied}
use Rattle.pool_entries.proofs.adding.tally.Given as goal

abbrev pub invariant-loop-size : goal.invariant-loop-size
invariant-loop-size l = l.bits ≤ 65535 → Tallied l.lengths l.size-index l.sum

use Rattle.std.proofs.Common.{◌≡◌, drop}
use Rattle.pool_entries.specs.Choose.{same_bytes}
use Rattle.pool_entries.proofs.same.same_from.Given as goal

abbrev pub invariant-loop-i : goal.invariant-loop-i
invariant-loop-i l = same_bytes (drop l.from l.a) (drop l.from l.b) ≡ same_bytes (drop l.i l.a) (drop l.i l.b)

use Rattle.std.proofs.Common.{◌<◌}
use Rattle.pool_commands.proofs.adler.adler.Given as goal

abbrev pub invariant-loop-byte : goal.invariant-loop-byte
invariant-loop-byte l = (l.a < 65521) × (l.b < 65521)

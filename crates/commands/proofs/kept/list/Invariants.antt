use Rattle.std.proofs.Common.{◌≤◌, length}
use Rattle.commands.proofs.kept.list.Given as goal

abbrev pub invariant-loop-item : goal.invariant-loop-item
invariant-loop-item g l = l.at ≤ length l.out

use Prim.Native.Nat.{◌≤◌, ◌-◌}
use lib.ListN.{length}
use Rattle.answers.proofs.read_in.Given as goal

abbrev pub invariant-loop-done : goal.invariant-loop-done
invariant-loop-done g l = l.done ≤ length l.list

abbrev pub decreases-loop-done : goal.decreases-loop-done
decreases-loop-done g l = length l.list - l.done

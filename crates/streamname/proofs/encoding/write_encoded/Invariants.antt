use Prim.Native.Nat.{◌-◌, ◌≤◌}
use lib.ListN.{length, drop}
use Rattle.streamname.specs.Names.{encoded}
use Rattle.common.proofs.Writing.{Writing}
use Rattle.streamname.proofs.encoding.write_encoded.Given as goal

abbrev pub invariant-loop-i : goal.invariant-loop-i
invariant-loop-i l = (l.i ≤ length l.name) × Writing l.initial.out 0 (encoded l.name) (encoded (drop l.i l.name)) l.out l.at

abbrev pub decreases-loop-i : goal.decreases-loop-i
decreases-loop-i l = length l.name - l.i

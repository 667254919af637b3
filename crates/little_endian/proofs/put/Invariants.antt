use Prim.Native.Nat.{◌-◌, ◌≤◌}
use Rattle.common.proofs.Writing.{Writing}
use Rattle.little_endian.specs.Numbers.{bytes_of}
use Rattle.little_endian.proofs.put.Given as goal

abbrev pub invariant-loop-i : goal.invariant-loop-i
invariant-loop-i l = (l.i ≤ l.width) × Writing l.initial.out l.at (bytes_of l.width l.number) (bytes_of (l.width - l.i) l.rest) l.out l.i

abbrev pub decreases-loop-i : goal.decreases-loop-i
decreases-loop-i l = l.width - l.i

use Prim.Native.Nat.{◌-◌}
use lib.ListN.{length}
use Rattle.streamname.specs.inner.Packing.{Tallied}
use Rattle.streamname.proofs.encoding.tally_units.Given as goal

abbrev pub invariant-loop-at : goal.invariant-loop-at
invariant-loop-at l = Tallied l.name l.at l.all

abbrev pub decreases-loop-at : goal.decreases-loop-at
decreases-loop-at l = length l.name - l.at

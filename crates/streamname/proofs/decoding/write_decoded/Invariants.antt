use lib.ListN.{drop}
use Rattle.common.proofs.Writing.{Writing}
use Rattle.streamname.specs.Names.{decoded}
use Rattle.streamname.proofs.decoding.write_decoded.Given as goal

abbrev pub invariant-loop-unit : goal.invariant-loop-unit
invariant-loop-unit l = Writing l.initial.out 0 (decoded l.stored) (decoded (drop l.unit-index l.stored)) l.out l.at

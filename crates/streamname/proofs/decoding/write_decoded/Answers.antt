use native.Mathlib.Omega.{arith}
use Rattle.common.proofs.Writing.{rooms, steps_front, count, done_front}
use Rattle.streamname.specs.inner.Packing.{units_of}
use Rattle.streamname.proofs.DecodeLaws.{decoded-next, decoded-end}
use Rattle.streamname.proofs.decoding.write_decoded.Goals as goal

pub put_units-at-requires : goal.put_units-at-requires
put_units-at-requires c =
    omega (arith, rooms c.loop-unit.invariant (units_of c.unpack.result) _ (decoded-next _ _ c.unpack.result c.loop-unit-test.true c.unpack.ensures))

pub loop-unit-preserved : goal.loop-unit-preserved
loop-unit-preserved c =
    let put = c.put_units-at.ensures in
    rw (put.ends, put.stands) (steps_front c.loop-unit.invariant (units_of c.unpack.result) _ (decoded-next _ _ c.unpack.result c.loop-unit-test.true c.unpack.ensures))

pub returns : goal.returns
returns c =
    let end = decoded-end _ _ c.loop-unit-test.false in
    record {
      ends = omega (arith, count c.loop-unit.invariant end);
      stands = done_front c.loop-unit.invariant end;
    }

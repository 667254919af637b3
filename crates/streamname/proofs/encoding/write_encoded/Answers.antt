use native.Mathlib.Omega.{arith}
use Rattle.streamname.proofs.EncodeLaws.{encoded-end}
use Rattle.common.proofs.Writing.{step_front, count, done_front}
use Rattle.streamname.proofs.encoding.write_encoded.Goals as goal

pub loop-i-preserved : goal.loop-i-preserved
loop-i-preserved c = (omega arith, step_front c.loop-i.invariant.1 c.pack-packed.ensures.packs)

pub returns : goal.returns
returns c =
    record {
      ends = omega (arith, count c.loop-i.invariant.1 (encoded-end _ _ c.loop-i-test.false));
      stands = done_front c.loop-i.invariant.1 (encoded-end _ _ c.loop-i-test.false);
    }

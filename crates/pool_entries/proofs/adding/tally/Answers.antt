use Rattle.std.proofs.Common.{ℕ, get_or, refl, arith}
use Rattle.pool_entries.proofs.Sums.{tally-next, or_left, or_right}
use Rattle.pool_entries.proofs.adding.tally.Goals as goal

pub loop-size-preserved : goal.loop-size-preserved
loop-size-preserved c = λ z.
    let l = c.loop-size in
    let x : ℕ = get_or c.args.lengths.now l.size-index 0 in
    tally-next c.args.lengths.now l.size-index l.sum _ (omega arith) (omega arith) (omega (arith, or_right l.bits x)) (l.invariant (omega (arith, or_left l.bits x))) refl

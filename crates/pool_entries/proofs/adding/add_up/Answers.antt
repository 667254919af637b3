use Rattle.std.proofs.Common.{◌∙◌}
use Rattle.pool_entries.proofs.Sums.{blocks-next}
use Rattle.pool_entries.proofs.adding.add_up.Goals as goal

pub loop-block-preserved : goal.loop-block-preserved
loop-block-preserved c =
    let steps = c.in-Some.ensures.steps in
    (steps.0 ∙ c.loop-block.invariant.0, blocks-next steps.1.0 c.loop-block.invariant.1 c.sum_block-b.ensures)

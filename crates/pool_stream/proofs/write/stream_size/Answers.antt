use native.Mathlib.Omega.{arith}
use mathlib.Core.Path.{◌∙◌}
use Rattle.pool_stream.proofs.Writing.{sizes-sum, length-few}
use Rattle.pool_stream.proofs.write.stream_size.Goals as goal

pub overflow_add-result : goal.overflow_add-result
overflow_add-result c = omega (arith, c.entries_size.ensures ∙ sizes-sum c.args.lengths.now c.args.counts.now, length-few c.args.lengths.now c.args.counts.now)

pub returns : goal.returns
returns c = omega (arith, c.entries_size.ensures ∙ sizes-sum c.args.lengths.now c.args.counts.now)

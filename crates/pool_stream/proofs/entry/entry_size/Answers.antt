use mathlib.Core.Path.{sym, ◌∙◌}
use native.Mathlib.Omega.{arith}
use Rattle.pool_stream.proofs.Writing.{length-narrow, length-wide}
use Rattle.pool_stream.proofs.entry.entry_size.Goals as goal

pub returns-then-wide : goal.returns-then-wide
returns-then-wide c = (sym (length-wide c.args.size c.args.count (sym c.wide.ensures ∙ c.if-wide.true)), omega arith)

pub returns-else-wide : goal.returns-else-wide
returns-else-wide c = (sym (length-narrow c.args.size c.args.count (sym c.wide.ensures ∙ c.if-wide.false)), omega arith)

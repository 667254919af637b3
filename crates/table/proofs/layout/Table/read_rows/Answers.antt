use mathlib.Core.Path.{sym}
use Rattle.table.proofs.layout.Table.read_rows.Goals as goal

pub returns : goal.returns
returns c = let there = c.in_ok-new.ensures in rw (sym there.rows) (rw (there.lent.0, there.lent.1) at c.read.ensures)

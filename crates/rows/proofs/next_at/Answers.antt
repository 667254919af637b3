use Rattle.rows.proofs.Steps.{positive, step_to, read_some, read_past}
use native.Mathlib.Omega.{arith}
use Rattle.rows.proofs.next_at.Goals as goal

pub returns-in-Ok : goal.returns-in-Ok
returns-in-Ok c =
    step_to (read_some c.args.table c.args.stream.now c.args.at (positive _ c.if-count-eq0.false) _ c.in-Ok.ensures) (omega arith)

pub returns-in-Err-OutsideTable : goal.returns-in-Err-OutsideTable
returns-in-Err-OutsideTable c =
    rw (read_past c.args.table c.args.stream.now c.args.at (positive _ c.if-count-eq0.false) _ (rw c.in-Err-OutsideTable.field-0-is at c.in-Err-OutsideTable.ensures))

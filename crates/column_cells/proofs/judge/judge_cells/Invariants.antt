use Rattle.column_cells.specs.Strides.{cell_number}
use Rattle.common.specs.Answers.{refusal_of, each}
use Rattle.common.specs.Lists.{from}
use Prim.Native.Nat.{◌-◌}
use mathlib.Core.Path.{◌≡◌}
use Rattle.column_cells.proofs.judge.judge_cells.Given as goal

-- What the cells that are left say, is what all say.
abbrev pub invariant-loop-row : goal.invariant-loop-row
invariant-loop-row g l =
    refusal_of (each (cell_number g.F.Fixed.FORM l.kinds l.numbers l.run) (from l.row (l.run.rows - l.row)))
    ≡ refusal_of (each (cell_number g.F.Fixed.FORM l.kinds l.numbers l.run) (from 0 l.run.rows))

use Rattle.table.specs.inner.Columns.{plain}
use Rattle.column_cells.specs.Strides.{cell_number}
use Rattle.table.specs.inner.Strides.{form_bytes}
use Rattle.common.specs.Answers.{gives, each, refusal_of}
use Rattle.common.specs.Lists.{◌over◌, over_at, from}
use Prim.Native.Nat.{◌-◌, ◌*◌}
use mathlib.Core.Path.{◌≡◌}
use Rattle.table.proofs.column_write.write_cells.Given as goal

-- What is still to be written, put at the place, stays the same in each turn.
abbrev pub invariant-loop-row : goal.invariant-loop-row
invariant-loop-row g l =
    let bytes_in = form_bytes g.F.Fixed.FORM l.kinds l.numbers l.run in
    record {
      start : l.at ≡ l.row * l.width;
      left : over_at l.at (plain bytes_in l.row (l.run.rows - l.row)) l.out ≡ plain bytes_in 0 l.run.rows over l.initial.out;
      fine : refusal_of (each (cell_number g.F.Fixed.FORM l.kinds l.numbers l.run) (from l.row (l.run.rows - l.row))) ≡ gives tt;
    }

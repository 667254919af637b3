use Rattle.column_cells.specs.Strides.{cell_place, strided, form_cell, kinds_read, numbers_read}
use Rattle.common.specs.Lists.{from}
use Prim.Native.Nat.{◌-◌}
use mathlib.Core.List.{map}
use mathlib.Core.Path.{◌≡◌}
use Rattle.column_cells.proofs.read.read_cells.Given as goal

-- What is still to be stored, stored over what there is, stays the same in each turn.
abbrev pub invariant-loop-row : goal.invariant-loop-row
invariant-loop-row g l =
    (strided (cell_place l.run l.row) l.run.step (map (λ i. (form_cell g.F.Fixed.FORM l.stream l.start i).0) (from l.row (l.run.rows - l.row))) l.kinds
    ≡ kinds_read g.F.Fixed.FORM l.stream l.start l.run l.fn.kinds)
    × (strided (cell_place l.run l.row) l.run.step (map (λ i. (form_cell g.F.Fixed.FORM l.stream l.start i).1) (from l.row (l.run.rows - l.row))) l.numbers
    ≡ numbers_read g.F.Fixed.FORM l.stream l.start l.run l.fn.numbers)

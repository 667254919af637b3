use Rattle.column_cells.proofs.Parts.{cell-part}
use Rattle.column_cells.proofs.Strides.{next-is, stride_turn}
use Rattle.column_cells.specs.Strides.{cell_place, form_width, form_cell}
use Rattle.cell.specs.Cells.{unstored}
use Rattle.cell.specs.Forms.{type_in}
use Rattle.cell.specs.Kinds.{cell_as}
use Rattle.little_endian.specs.Numbers.{number_at}
use mir.Facts.{to_z-of_z}
use mir.Syntax.{w32}
use lib.IntN.{ℤ}
use lib.ListN.{take, drop}
use native.Mathlib.Omega.{arith}
use Prim.Native.Nat.{ℕ, ◌+◌, ◌-◌, ◌*◌, ◌≤◌}
use mathlib.Core.Path.{◌≡◌, ap, ◌∙◌}
use Rattle.column_cells.proofs.read.read_cells.Goals as goal

pub loop-row-preserved : goal.loop-row-preserved
loop-row-preserved g c =
    let f = g.F.Fixed.FORM in
    let l = c.loop-row in
    let a = c.args in
    let s = a.stream.now in
    let h = c.loop-row-test.true in
    let w : c.width-width.result ≡ form_width f = rw c.FORM.ensures at c.width-width.ensures in
    let at = a.start + l.row * c.width-width.result in
    let k = at + c.width-width.result - at in
    let more : form_width f ≤ k = rw (← w) (omega arith) in
    let read : cell_as c.read_value-value.result ≡ unstored (type_in f) (number_at (form_width f) (take k (drop at s)) 0) = rw c.FORM-in-loop-row.ensures at c.read_value-value.ensures in
    let value : cell_as c.read_value-value.result ≡ form_cell f s a.start l.row = read ∙ rw (cell-part f s at k more, w) in
    let kind : c.kind.result ≡ (form_cell f s a.start l.row).0 = c.kind.ensures ∙ ap (λ (x : ℕ × ℤ). x.0) value in
    let number : c.number.result ≡ (form_cell f s a.start l.row).1 = c.number.ensures ∙ ap (λ (x : ℕ × ℤ). x.1) value in
    let next : cell_place a.run (l.row + 1) ≡ cell_place a.run l.row + a.run.step = rw next-is (omega arith) in (
      rw (next, kind) (stride_turn (λ i. (form_cell f s a.start i).0) (cell_place a.run l.row) a.run.step l.row a.run.rows l.kinds h ∙ l.invariant.0),
      rw (next, to_z-of_z {w = w32} {z = c.number.result} (record { sfits = c.number.type_inv }), number)
          (stride_turn (λ i. (form_cell f s a.start i).1) (cell_place a.run l.row) a.run.step l.row a.run.rows l.numbers h ∙ l.invariant.1),
    )

use Rattle.std.proofs.Common.{rules}
use Rattle.common.proofs.Lists.{from_next}
use Rattle.common.proofs.Answers.{fine-first}
use Rattle.table.proofs.Plain.{plain_turn}
use Rattle.column_cells.proofs.Strides.{next_le, next-is}
use Rattle.table.specs.inner.Columns.{given_bytes, plain}
use Rattle.column_cells.specs.Strides.{form_width, cell_number}
use Rattle.table.specs.inner.Strides.{form_bytes, form_stored}
use Rattle.cell.proofs.Numbers.{handed-stored}
use Rattle.cell.specs.Forms.{type_in, long_in}
use Rattle.cell.specs.Handed.{cell_of}
use Rattle.cell.specs.declared.value.Cell.{Cell}
use Rattle.cell.specs.declared.form.CellForm.{CellForm}
use Rattle.column_cells.specs.declared.stride.Stride.{Stride}
use Rattle.little_endian.proofs.Laws.{length-bytes, written}
use Rattle.little_endian.specs.Numbers.{bytes_of}
use Rattle.common.proofs.Parts.{over_next, exact_over}
use Rattle.common.specs.Answers.{Answer, gives, cell as place_of, on_given, each, refusal_of}
use Rattle.common.specs.Lists.{◌over◌, over_at, from}
use mir.Val.{to_z, of_z}
use mir.Syntax.{w32}
use lib.Seq.{length-take-le}
use lib.ListN.{length, get_or, take, drop, length-drop}
use lib.IntN.{ℤ, pos}
use borrow.Rule.Slice.PartMut.{put_mid}
use native.Mathlib.Omega.{arith}
use Prim.Native.Nat.{ℕ, ◌+◌, ◌-◌, ◌*◌, ◌<◌, ◌≤◌}
use mathlib.Core.List.{List}
use mathlib.Core.Path.{◌≡◌, refl, sym, ap, ◌∙◌}
use Rattle.table.proofs.column_write.write_cells.Goals as goal

module _ (f : CellForm) (kinds : List ℕ) (numbers : List ℤ) (run : Stride) (row : ℕ) where
  -- the cell that stands at this place is the row's
  stored_is : (v : Cell) → v ≡ cell_of (get_or kinds (row * run.step + run.column) 0) (get_or numbers (row * run.step + run.column) (pos 0)) → form_stored f v (place_of row run.column) ≡ cell_number f kinds numbers run row
  stored_is v made = rw made (handed-stored (long_in f) (place_of row run.column) (type_in f) _ _)

  -- the row can be stored, and so can those after it
  fine : row < run.rows → refusal_of (each (cell_number f kinds numbers run) (from row (run.rows - row))) ≡ gives tt
      → (refusal_of (cell_number f kinds numbers run row) ≡ gives tt) × (refusal_of (each (cell_number f kinds numbers run) (from (row + 1) (run.rows - (row + 1)))) ≡ gives tt)
  fine h e = fine-first (cell_number f kinds numbers run) row (from (row + 1) (run.rows - (row + 1))) (rw (from_next row run.rows h) at e)

-- it was judged
pub number_of-number-requires : goal.number_of-number-requires
number_of-number-requires g c =
    let l = c.loop-row in
    let a = c.args in
    let z = get_or a.numbers.now (l.row * a.run.step + a.run.column) (pos 0) in
    let back : to_z w32 (of_z w32 z) ≡ z = search rules in
    let number = stored_is g.F.Fixed.FORM a.kinds.now a.numbers.now a.run l.row c.new.result (rw back at c.new.ensures) in
    rw c.FORM-in-loop-row.ensures (place_of l.row a.run.column, ap refusal_of number ∙ (fine g.F.Fixed.FORM a.kinds.now a.numbers.now a.run l.row c.loop-row-test.true l.invariant.fine).0)

pub loop-row-preserved : goal.loop-row-preserved
loop-row-preserved g c =
    let l = c.loop-row in
    let a = c.args in
    let z = get_or a.numbers.now (l.row * a.run.step + a.run.column) (pos 0) in
    let back : to_z w32 (of_z w32 z) ≡ z = search rules in
    let number = stored_is g.F.Fixed.FORM a.kinds.now a.numbers.now a.run l.row c.new.result (rw back at c.new.ensures) in
    let f = form_bytes g.F.Fixed.FORM a.kinds.now a.numbers.now a.run in
    let w = c.width-width.result in
    let width_is = rw c.FORM.ensures at c.width-width.ensures in
    let at = l.at in
    let n = c.number_of-number.result in
    let bytes = given_bytes (f l.row) in
    let rest = plain f (l.row + 1) (a.run.rows - (l.row + 1)) in
    let all : a.run.rows * w ≤ length a.out.now = rw width_is c.requires.room in
    let room : at + w ≤ length l.out = omega (arith, next_le l.row a.run.rows w c.loop-row-test.true, l.invariant.start) in
    let k = at + w - at in
    let ke : k ≡ w = omega arith in
    let part = take k (drop at l.out) in
    let long : length part ≡ k = length-take-le k (drop at l.out) (rw length-drop (omega arith)) in
    let stores : cell_number g.F.Fixed.FORM a.kinds.now a.numbers.now a.run l.row ≡ gives n = sym number ∙ rw c.FORM-in-loop-row.ensures at (c.number_of-number.ensures (place_of l.row a.run.column)) in
    let is : bytes_of w n ≡ bytes = rw width_is (sym (ap (λ (x : Answer ℕ). given_bytes (on_given x (λ m. gives (bytes_of (form_width g.F.Fixed.FORM) m)))) stores)) in
    let size : length bytes ≡ w = ap length (sym is) ∙ length-bytes w n in
    let put : c.write.new.out ≡ bytes over part =
    ap (λ (x : _ × List ℕ). x.1) (c.write.ensures ∙ sym (written n w part 0 (over_at 0 (bytes_of w n) part) (omega arith) refl)) ∙ ap (λ (x : List ℕ). x over part) is in
    let left : put_mid at k l.out c.write.new.out ≡ over_at at bytes l.out = rw put (exact_over bytes l.out at k (omega arith) (size ∙ sym ke)) in
    record {
      start = rw next-is (omega (arith, l.invariant.start));
      left = rw left (over_next bytes rest l.out at w (omega arith) size
          ∙ ap (λ (x : List ℕ). over_at at x l.out) (sym (plain_turn f l.row a.run.rows c.loop-row-test.true))
          ∙ l.invariant.left);
      fine = (fine g.F.Fixed.FORM a.kinds.now a.numbers.now a.run l.row c.loop-row-test.true l.invariant.fine).1;
    }

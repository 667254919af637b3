use Rattle.column_cells.specs.Strides.{cell_number, cell_place}
use Rattle.cell.proofs.Numbers.{handed-stored}
use Rattle.cell.specs.declared.value.Cell.{Cell}
use Rattle.cell.specs.declared.form.CellForm.{CellForm}
use Rattle.column_cells.specs.declared.stride.Stride.{Stride}
use Rattle.cell.specs.Cells.{stored}
use Rattle.cell.specs.Forms.{type_in, long_in}
use Rattle.cell.specs.Handed.{cell_of, handed_kind, handed_number}
use Rattle.common.specs.Answers.{refusal_of, cell}
use Rattle.common.proofs.Answers.{each_turn, each-stop}
use mir.Facts.{to_z-of_z}
use mir.Syntax.{w32}
use mir.Val.{SFits, to_z, of_z}
use Rattle.std.specs.Result.{IsErrAnd}
use Rattle.std.specs.Prelude.{Result, Ok, Err}
use Rattle.common.specs.declared.refusal.Refusal.{Refusal}
use Rattle.common.specs.Refusals.{answered, refused_by}
use lib.ListN.{get_or}
use lib.IntN.{ℤ, pos}
use native.Mathlib.Omega.{arith}
use Prim.Native.Nat.{ℕ}
use mathlib.Core.List.{List}
use mathlib.Core.Path.{◌≡◌, sym, ap, ◌∙◌}
use Rattle.column_cells.proofs.judge.judge_cells.Goals as goal

-- the cell made of what was handed over is judged as that is
judged : (f : CellForm) (kinds : List ℕ) (numbers : List ℤ) (run : Stride) (r : ℕ) (v : Cell) → v ≡ cell_of (get_or kinds (cell_place run r) 0) (get_or numbers (cell_place run r) (pos 0))
    → stored (type_in f) (long_in f) (cell r run.column) (handed_kind v) (handed_number v) ≡ cell_number f kinds numbers run r
judged f kinds numbers run r v e = rw e (handed-stored (long_in f) (cell r run.column) (type_in f) _ _)

-- what was handed over, as the code reads it
same : (kinds : List ℕ) (numbers : List ℤ) (i : ℕ) (v : Cell) → SFits w32 (get_or numbers i (pos 0)) → v ≡ cell_of (get_or kinds i 0) (to_z w32 (of_z w32 (get_or numbers i (pos 0)))) → v ≡ cell_of (get_or kinds i 0) (get_or numbers i (pos 0))
same kinds numbers i v f e = rw (to_z-of_z {w = w32} {z = get_or numbers i (pos 0)} f) at e

-- a refusal that is passed on
passed_on : (r : Result (Unit {0}) Refusal) (why : Refusal) → IsErrAnd r (λ y. y ≡ why) → answered r ≡ refused_by why
passed_on (Ok x) why e = absurd e
passed_on (Err y) why e = ap refused_by e

-- src/judge.rt:50:9
pub returns-in_err-stored : goal.returns-in_err-stored
returns-in_err-stored g c =
    let a = c.args in
    let l = c.loop-row in
    let made = same a.kinds.now a.numbers.now (cell_place a.run l.row) c.new.result (record { sfits = omega arith }) c.new.ensures in
    passed_on c.from_residual.result _ c.from_residual.ensures.1
    ∙ (each-stop (cell_number g.F.Fixed.FORM a.kinds.now a.numbers.now a.run) l.row a.run.rows c.loop-row-test.true _ _
    (rw (← judged g.F.Fixed.FORM a.kinds.now a.numbers.now a.run l.row c.new.result made) (ap refusal_of (sym (rw c.FORM.ensures at c.in_err-stored.ensures))))
    ∙ l.invariant)

-- src/judge.rt:48:5
pub loop-row-preserved : goal.loop-row-preserved
loop-row-preserved g c =
    let a = c.args in
    let l = c.loop-row in
    let made = same a.kinds.now a.numbers.now (cell_place a.run l.row) c.new.result (record { sfits = omega arith }) c.new.ensures in
    each_turn (cell_number g.F.Fixed.FORM a.kinds.now a.numbers.now a.run) l.row a.run.rows c.loop-row-test.true
    (rw (← judged g.F.Fixed.FORM a.kinds.now a.numbers.now a.run l.row c.new.result made) (ap refusal_of (sym (rw c.FORM.ensures at c.in_ok-stored.ensures))))
    ∙ l.invariant

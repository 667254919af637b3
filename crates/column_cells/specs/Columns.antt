-- The cells of one column, judged and read.
use Rattle.std.specs.Prelude.{ℕ, ◌+◌, ◌*◌, ◌&&◌, ◌||◌, not, List, ℤ, length}
use Rattle.common.specs.Choice.{when◌then◌else◌, ◌<?◌, ◌=?◌}
use Rattle.common.specs.Sizes.{max_bytes}
use Rattle.common.specs.Lists.{from}
use Rattle.common.specs.Answers.{Answer, gives, refused, nowhere, on_given, each, refusal_of, outcome}
use Rattle.cell.specs.declared.form.CellForm.{CellForm}
use Rattle.column_cells.specs.declared.stride.Stride.{Stride}
use Rattle.column_cells.specs.Strides.{form_width, stride_fits, cell_number, kinds_read, numbers_read}

-- 20, 14, 15; "23 kinds or numbers handed over not rows times columns"; then the cells row by row
abbrev pub judge_column_answer : CellForm → List ℕ → List ℤ → Stride → Answer (Unit {0})
judge_column_answer f kinds numbers run =
    on_given (stride_fits run)
    (λ x.
    when not (length kinds =? run.rows * run.step && length numbers =? run.rows * run.step) then refused 23 nowhere
    else refusal_of (each (cell_number f kinds numbers run) (from 0 run.rows)))

-- 22; 20, 14, 15, which is given also where the column does not lie within the stream; 7
abbrev pub read_fits_lem : CellForm → ℕ → ℕ → ℕ → ℕ → Stride → Answer (Unit {0})
read_fits_lem f bytes start kinds numbers run =
    when max_bytes <? bytes then refused 22 nowhere
    else on_given (stride_fits run)
    (λ x.
    when bytes <? start + run.rows * form_width f then refused 15 nowhere
    else when kinds <? run.rows * run.step || numbers <? run.rows * run.step then refused 7 nowhere
    else gives tt)

abbrev pub read_column_outcome : CellForm → List ℕ → ℕ → Stride → List ℕ → List ℤ → Answer (Unit {0}) × (List ℕ × List ℤ)
read_column_outcome f s start run kinds numbers =
    outcome (kinds, numbers)
    (on_given (read_fits_lem f (length s) start (length kinds) (length numbers) run) (λ x. gives (tt, (kinds_read f s start run kinds, numbers_read f s start run numbers))))

-- One column's cells among those of all, by their form.
use Rattle.std.specs.Prelude.{ℕ, ◌+◌, ◌*◌, List, [], ◌∷◌, map, ℤ, pos, get_or, set}
use Rattle.common.specs.Choice.{when◌then◌else◌, ◌<?◌, ◌≤?◌}
use Rattle.common.specs.Sizes.{max_columns, max_rows}
use Rattle.common.specs.Lists.{from}
use Rattle.common.specs.Answers.{Answer, gives, refused, nowhere, cell}
use Rattle.little_endian.specs.Numbers.{number_at}
use Rattle.cell.specs.declared.form.CellForm.{CellForm}
use Rattle.cell.specs.Cells.{width, stored, unstored}
use Rattle.cell.specs.Forms.{type_in, long_in}
use Rattle.column_cells.specs.declared.stride.Stride.{Stride}

-- the width of a form
abbrev pub form_width : CellForm → ℕ
form_width f = width (type_in f) (long_in f)

-- where the cell of a row stands among those of all
abbrev pub cell_place : Stride → ℕ → ℕ
cell_place run r = r * run.step + run.column

-- at most 64 columns and 65,536 rows, and the column one of them: 20, 14, 15
abbrev pub stride_fits : Stride → Answer (Unit {0})
stride_fits run =
    when max_columns <? run.step then refused 20 nowhere
    else when max_rows <? run.rows then refused 14 nowhere
    else when run.step ≤? run.column then refused 15 nowhere
    else gives tt

-- what the cell of a row stores, or why it cannot be stored
abbrev pub cell_number : CellForm → List ℕ → List ℤ → Stride → ℕ → Answer ℕ
cell_number f kinds numbers run r = stored (type_in f) (long_in f) (cell r run.column) (get_or kinds (cell_place run r) 0) (get_or numbers (cell_place run r) (pos 0))

-- the r-th cell of a column whose bytes begin at a place
abbrev pub form_cell : CellForm → List ℕ → ℕ → ℕ → ℕ × ℤ
form_cell f s start r = unstored (type_in f) (number_at (form_width f) s (start + r * form_width f))

-- stores at i, i + step, i + 2 * step, ..
abbrev pub strided : {A : Type 0} → ℕ → ℕ → List A → List A → List A
strided i step [] l = l
strided i step (v ∷ vs) l = strided (i + step) step vs (set l i v)

-- the kinds and the numbers of all with the column's at their places
abbrev pub kinds_read : CellForm → List ℕ → ℕ → Stride → List ℕ → List ℕ
kinds_read f s start run kinds = strided run.column run.step (map (λ r. (form_cell f s start r).0) (from 0 run.rows)) kinds

abbrev pub numbers_read : CellForm → List ℕ → ℕ → Stride → List ℤ → List ℤ
numbers_read f s start run numbers = strided run.column run.step (map (λ r. (form_cell f s start r).1) (from 0 run.rows)) numbers

-- What the judge and the reader of a column are handed.
use Rattle.std.specs.Prelude.{ℕ, ◌+◌, ◌*◌, ◌≤◌, ◌<◌, ◌≡◌}
use Rattle.cell.specs.declared.form.CellForm.{CellForm}
use Rattle.column_cells.specs.declared.stride.Stride.{Stride}
use Rattle.column_cells.specs.Strides.{form_width}

-- as many cells as the rows and columns say
pub record Handed (kinds numbers : ℕ) (run : Stride) : Type 0 where
  pub few : run.rows ≤ 65536
  pub narrow : run.step ≤ 64
  pub kinds-are : kinds ≡ run.rows * run.step
  pub numbers-are : numbers ≡ run.rows * run.step
  pub below : run.column < run.step

-- places for as many cells at least, and a stream that holds them
pub record Held (f : CellForm) (s start kinds numbers : ℕ) (run : Stride) : Type 0 where
  pub few : run.rows ≤ 65536
  pub narrow : run.step ≤ 64
  pub kinds-are : run.rows * run.step ≤ kinds
  pub numbers-are : run.rows * run.step ≤ numbers
  pub below : run.column < run.step
  pub stream : start + run.rows * form_width f ≤ s

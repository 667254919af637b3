-- Document 01, "Rows": the cells of a table, over the types of its columns.
use Rattle.std.specs.Prelude.{ℕ, Bool, List, map, ℤ}
use Rattle.common.specs.Lists.{joined, from}
use Rattle.little_endian.specs.Numbers.{number_at}
use Rattle.cell.specs.declared.form.ColumnType.{ColumnType}
use Rattle.cell.specs.Cells.{width, unstored}
use Rattle.widths.specs.Widths.{type_at}
use Rattle.widths.specs.Places.{cell_start}

-- the kind and number of the cell at row r, column c
abbrev pub cell_at : List ColumnType → Bool → ℕ → List ℕ → ℕ → ℕ → ℕ × ℤ
cell_at ts long rows s r c = unstored (type_at ts c) (number_at (width (type_at ts c) long) s (cell_start ts long rows r c))

-- "Bulk cells run row by row"
abbrev pub row_by_row : {A : Type 0} → (ℕ → ℕ → A) → ℕ → ℕ → List A
row_by_row g rows columns = joined (map (λ (r : ℕ). map (g r) (from 0 columns)) (from 0 rows))

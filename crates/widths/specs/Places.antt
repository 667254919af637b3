-- Document 01, "Rows": the rows of a stream, and where its cells begin.
use Rattle.std.specs.Prelude.{ℕ, ◌+◌, ◌*◌, ◌/◌, Bool, List, [], ◌∷◌, take}
use Rattle.common.specs.Choice.{when◌then◌else◌, ◌<?◌, ◌=?◌}
use Rattle.common.specs.Sizes.{max_bytes, max_rows}
use Rattle.common.specs.Lists.{◌over◌}
use Rattle.common.specs.Answers.{Answer, gives, refused, nowhere, on_given}
use Rattle.cell.specs.declared.form.ColumnType.{ColumnType}
use Rattle.cell.specs.Cells.{width}
use Rattle.column.specs.declared.column.Column.{Column}
use Rattle.widths.specs.declared.places.Places.{Places}
use Rattle.widths.specs.Judged.{used_types, on_sound_columns}
use Rattle.widths.specs.Widths.{widths_in, row_size_lem, type_at, zeros}

-- "rows are stream length divided by it, rounded down, 0 with no columns"
abbrev pub rows_in : List ColumnType → Bool → ℕ → ℕ
rows_in ts long bytes = when row_size_lem ts long =? 0 then 0 else bytes / row_size_lem ts long

-- "The cell at row r, column c starts at rows times the widths before c, plus r times c's width"
abbrev pub cell_start : List ColumnType → Bool → ℕ → ℕ → ℕ → ℕ
cell_start ts long rows r c = rows * row_size_lem (take c ts) long + r * width (type_at ts c) long

-- where columns of these widths begin, after as many widths in a row
abbrev pub starts_from : ℕ → ℕ → List ℕ → List ℕ
starts_from rows before [] = []
starts_from rows before (w ∷ ws) = rows * before ∷ starts_from rows (before + w) ws

-- a place that is not in use holds 0
abbrev pub places_for : List ColumnType → Bool → ℕ → Places
places_for ts long rows = record { rows = rows; widths = widths_in ts long over zeros; starts = starts_from rows 0 (widths_in ts long) over zeros }

-- at most 65,536 rows: 14
abbrev pub rows_found : List ColumnType → Bool → ℕ → Answer ℕ
rows_found ts long bytes =
    let rows = rows_in ts long bytes in
    when max_rows <? rows then refused 14 nowhere else gives rows

-- the rows of a stream: 22, 20, 19, 14
abbrev pub rows_answer : List Column → ℕ → Bool → ℕ → Answer ℕ
rows_answer columns count long bytes =
    when max_bytes <? bytes then refused 22 nowhere else on_sound_columns columns count (rows_found (used_types columns count) long bytes)

-- and the places of its columns
abbrev pub places_outcome : List Column → ℕ → Bool → ℕ → Answer Places
places_outcome columns count long bytes = on_given (rows_answer columns count long bytes) (λ rows. gives (places_for (used_types columns count) long rows))

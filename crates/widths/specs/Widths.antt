-- Document 01, "Rows": the widths of columns and their sum, over the types of the columns.
use Rattle.std.specs.Prelude.{ℕ, Bool, List, map, get_or, replicate}
use Rattle.common.specs.Lists.{◌over◌, total}
use Rattle.common.specs.Answers.{Answer, gives}
use Rattle.cell.specs.declared.form.ColumnType.{ColumnType}
use Rattle.cell.specs.declared.form.ColumnType.TheVariants.{Int16}
use Rattle.cell.specs.Cells.{width}
use Rattle.column.specs.declared.column.Column.{Column}
use Rattle.widths.specs.declared.widths.Widths.{Widths}
use Rattle.widths.specs.Judged.{used_types, on_sound_columns}

abbrev pub widths_in : List ColumnType → Bool → List ℕ
widths_in ts long = map (λ (t : ColumnType). width t long) ts

-- "Row size is the sum of widths"
abbrev pub row_size_lem : List ColumnType → Bool → ℕ
row_size_lem ts long = total (widths_in ts long)

abbrev pub type_at : List ColumnType → ℕ → ColumnType
type_at ts c = get_or ts c Int16

abbrev pub zeros : List ℕ
zeros = replicate 64 0

-- a place that is not in use holds 0
abbrev pub widths_for : List ColumnType → Bool → Widths
widths_for ts long = record { widths = widths_in ts long over zeros; row_size = row_size_lem ts long }

-- 20, 19
abbrev pub widths_outcome : List Column → ℕ → Bool → Answer Widths
widths_outcome columns count long = on_sound_columns columns count (gives (widths_for (used_types columns count) long))

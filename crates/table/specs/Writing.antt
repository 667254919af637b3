-- Document 01, "Rows": cells written in bulk.
use Rattle.std.specs.Prelude.{ℕ, ◌+◌, ◌*◌, Bool, List, ℤ, pos, length, get_or}
use Rattle.common.specs.Sizes.{max_rows}
use Rattle.common.specs.Lists.{joined, from}
use Rattle.common.specs.Answers.{Answer, gives, cell, on_given, each, outcome, written_to}
use Rattle.order.specs.Order.{bulk_fits_lem}
use Rattle.little_endian.specs.Numbers.{bytes_of}
use Rattle.cell.specs.declared.form.ColumnType.{ColumnType}
use Rattle.cell.specs.Cells.{width, stored}
use Rattle.widths.specs.Widths.{type_at}
use Rattle.table.specs.declared.layout.Table.{Table}
use Rattle.table.specs.Layout.{on_columns, types_of}

-- the cells handed over, "each a kind .. and a signed 32-bit number"
pub record Cells : Type 0 where
  pub kinds : List ℕ
  pub numbers : List ℤ

-- "Bulk cells run row by row": the bytes of the cell at row r of a column c of `columns`
abbrev pub cell_bytes : ColumnType → Bool → ℕ → Cells → ℕ → ℕ → Answer (List ℕ)
cell_bytes t long columns cells c r =
    let i = r * columns + c in
    on_given (stored t long (cell r c) (get_or cells.kinds i 0) (get_or cells.numbers i (pos 0)))
    (λ n. gives (bytes_of (width t long) n))

-- the cells of a column row by row, or the first bad one
abbrev pub column_bytes : List ColumnType → Bool → ℕ → Cells → ℕ → Answer (List ℕ)
column_bytes ts long rows cells c = on_given (each (cell_bytes (type_at ts c) long (length ts) cells c) (from 0 rows)) (λ bytes. gives (joined bytes))

-- "Each column is written to its own stretch of the output, beginning where the one before it stopped";
-- "Cells are judged in column order, then row"
abbrev pub table_bytes : List ColumnType → Bool → ℕ → Cells → Answer (List ℕ)
table_bytes ts long rows cells = on_given (each (column_bytes ts long rows cells) (from 0 (length ts))) (λ bytes. gives (joined bytes))

-- `write_rows`, where the columns are sound: 14, 23, the cells, 7
abbrev pub written_rows : List ColumnType → Bool → ℕ → Cells → List ℕ → Answer (ℕ × List ℕ)
written_rows ts long rows cells out =
    on_given (bulk_fits_lem max_rows rows (length ts) (length cells.kinds) (length cells.numbers))
    (λ x. on_given (table_bytes ts long rows cells) (written_to out))

abbrev pub write_rows_answer : Table → ℕ → Cells → List ℕ → Answer (ℕ × List ℕ)
write_rows_answer t rows cells out = on_columns t (written_rows (types_of t) t.long_string_refs rows cells out)

abbrev pub write_rows_outcome : Table → ℕ → Cells → List ℕ → Answer ℕ × List ℕ
write_rows_outcome t rows cells out = outcome out (write_rows_answer t rows cells out)

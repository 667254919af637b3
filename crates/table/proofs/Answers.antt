-- What a bulk write answers where its columns, its order and its cells are sound.
use mathlib.Core.Path.{◌≡◌, sym, ap, ◌∙◌}
use mathlib.Core.Bool.{Bool}
use mathlib.Core.List.{List}
use Prim.Native.Nat.{ℕ, ◌*◌, ◌<◌, ◌≤◌}
use native.Mathlib.Nat.{mul-le-mul_right}
use native.Mathlib.Omega.{arith}
use borrow.Author.Tests.{lt-ltb, le-ltb}
use lib.ListN.{length}
use Rattle.common.specs.Lists.{◌over◌}
use Rattle.common.specs.Answers.{Place, nowhere, gives, refused, refusal_of}
use Rattle.common.proofs.Answers.{refused-is}
use Rattle.cell.specs.declared.form.ColumnType.{ColumnType}
use Rattle.order.specs.Order.{bulk_fits_lem}
use Rattle.order.proofs.Cells.{bulk}
use Rattle.widths.specs.declared.widths.Widths.{Widths}
use Rattle.widths.specs.Judged.{sound_columns}
use Rattle.widths.specs.Widths.{row_size_lem, widths_for, widths_outcome}
use Rattle.widths.proofs.Judged.{columns_passed, count-few}
use Rattle.widths.proofs.Rows.{size-le, widths_given}
use Rattle.table.specs.declared.layout.Table.{Table}
use Rattle.table.specs.Layout.{types_of}
use Rattle.table.specs.Writing.{Cells, column_bytes, table_bytes, written_rows, write_rows_answer}
use Rattle.table.specs.inner.Columns.{plain}
use Rattle.table.proofs.Column.{table_given, table_length}
use Rattle.table.proofs.Layouts.{types_count}

module _ (ts : List ColumnType) (long : Bool) (rows : ℕ) (cells : Cells) (out : List ℕ) (fit : gives tt ≡ bulk_fits_lem 65536 rows (length ts) (length cells.kinds) (length cells.numbers)) where
  abbrev bytes : List ℕ
  bytes = plain (column_bytes ts long rows cells) 0 (length ts)

  pub bad-cell : (m : ℕ) (at : Place) → refused m at ≡ refusal_of (table_bytes ts long rows cells) → written_rows ts long rows cells out ≡ refused m at
  bad-cell m at e = rw (sym fit, refused-is (table_bytes ts long rows cells) m at (sym e))

  module _ (fine : gives tt ≡ refusal_of (table_bytes ts long rows cells)) where
    short : length out < rows * row_size_lem ts long → written_rows ts long rows cells out ≡ refused 7 nowhere
    short h =
        let l = table_length ts long rows cells (sym fine) in
        rw (sym fit, table_given ts long rows cells (sym fine), lt-ltb (length out) (length bytes) (omega arith))

    enough : rows * row_size_lem ts long ≤ length out → written_rows ts long rows cells out ≡ gives (rows * row_size_lem ts long, bytes over out)
    enough h =
        let l = table_length ts long rows cells (sym fine) in
        rw (sym fit, table_given ts long rows cells (sym fine), le-ltb (length out) (length bytes) (omega arith), l)

-- the same of a table whose columns were judged

module _ (t : Table) (rows : ℕ) (cells : Cells) (w : Widths) (whole : length t.columns ≡ 64)
    (sound : gives w ≡ widths_outcome t.columns t.count t.long_string_refs)
    (fit : gives tt ≡ bulk_fits_lem 65536 rows t.count (length cells.kinds) (length cells.numbers)) where
  given : (gives tt ≡ refusal_of (sound_columns t.columns t.count)) × (w ≡ widths_for (types_of t) t.long_string_refs)
  given = widths_given t.columns t.count t.long_string_refs w sound

  narrow : t.count ≤ 64
  narrow = count-few t.columns t.count given.0

  count-is : length (types_of t) ≡ t.count
  count-is = types_count t narrow whole

  size : w.row_size ≡ row_size_lem (types_of t) t.long_string_refs
  size = ap (λ (x : Widths). x.row_size) given.1

  pub bytes-few : rows * w.row_size ≤ 16777216
  bytes-few =
      let few = bulk 65536 rows t.count (length cells.kinds) (length cells.numbers) fit in
      rw size (omega (arith, mul-le-mul_right {m = rows} {n = 65536} (row_size_lem (types_of t) t.long_string_refs) few.few, size-le t.long_string_refs (types_of t), count-is, narrow))

  module _ (fine : gives tt ≡ refusal_of (table_bytes (types_of t) t.long_string_refs rows cells)) (out : List ℕ) where
    passed : write_rows_answer t rows cells out ≡ written_rows (types_of t) t.long_string_refs rows cells out
    passed = columns_passed t.columns t.count (written_rows (types_of t) t.long_string_refs rows cells out) given.0

    fits : gives tt ≡ bulk_fits_lem 65536 rows (length (types_of t)) (length cells.kinds) (length cells.numbers)
    fits = rw count-is fit

    pub no_room : length out < rows * w.row_size → write_rows_answer t rows cells out ≡ refused 7 nowhere
    no_room h = passed ∙ short (types_of t) t.long_string_refs rows cells out fits fine (rw size at h)

    pub written : rows * w.row_size ≤ length out
        → write_rows_answer t rows cells out ≡ gives (rows * w.row_size, plain (column_bytes (types_of t) t.long_string_refs rows cells) 0 t.count over out)
    written h =
        passed ∙ enough (types_of t) t.long_string_refs rows cells out fits fine (rw size at h)
        ∙ ap (λ (n : ℕ). gives (rows * n, plain (column_bytes (types_of t) t.long_string_refs rows cells) 0 (length (types_of t)) over out)) (sym size)
        ∙ ap (λ (n : ℕ). gives (rows * w.row_size, plain (column_bytes (types_of t) t.long_string_refs rows cells) 0 n over out)) count-is

-- What the calls know of a table's columns and places.
use mathlib.Core.Path.{◌≡◌, sym, ◌∙◌, ap}
use mathlib.Core.Bool.{Bool}
use mathlib.Core.List.{List}
use Prim.Native.Nat.{ℕ, ◌+◌, ◌*◌, ◌<◌, ◌≤◌}
use native.Mathlib.Nat.{add-mul, mul-add, mul-le-mul_right}
use native.Mathlib.Omega.{arith}
use lib.IntN.{ℤ}
use lib.ListN.{length, get_or, take}
use Rattle.common.specs.Lists.{from}
use Rattle.common.specs.Answers.{Answer, gives, each, refusal_of}
use Rattle.cell.specs.Cells.{width}
use Rattle.cell.specs.Forms.{form_for}
use Rattle.cell.proofs.Cells.{form-width}
use Rattle.cell.specs.declared.form.CellForm.{CellForm}
use Rattle.column_cells.specs.declared.stride.Stride.{Stride}
use Rattle.column_cells.specs.inner.Handed.{Handed}
use Rattle.column_cells.specs.Strides.{form_width, form_cell, cell_number}
use Rattle.column_cells.specs.Columns.{judge_column_answer}
use Rattle.column_cells.proofs.Columns.{judge_handed}
use Rattle.cell.specs.declared.form.ColumnType.{ColumnType}
use Rattle.widths.specs.declared.places.Places.{Places}
use Rattle.widths.specs.Widths.{row_size_lem, type_at}
use Rattle.widths.proofs.Judged as judged
use Rattle.widths.proofs.Rows.{size-le, width-at, start_at}
use Rattle.table.specs.declared.layout.Table.{Table}
use Rattle.table.specs.Layout.{types_of}
use Rattle.table.specs.inner.Layout.{Lies}
use Rattle.table.specs.Rows.{cell_at}
use Rattle.table.specs.Writing.{column_bytes, table_bytes}
use Rattle.table.specs.inner.Columns.{given_bytes, plain}
use Rattle.table.specs.inner.Strides.{form_bytes}
use Rattle.table.proofs.Column.{column-within, size-next, form-cell, column-judged, column-bytes, column-length, table_judged}

pub types_count : (t : Table) → t.count ≤ 64 → length t.columns ≡ 64 → length (types_of t) ≡ t.count
types_count t few e = judged.types_count t.columns t.count few e

module _ (t : Table) (p : Places) (bytes : ℕ) (l : Lies t p bytes) (c : ℕ) (h : c < t.count) where
  abbrev ts : List ColumnType
  ts = types_of t

  abbrev long : Bool
  long = t.long_string_refs

  abbrev wide : ℕ
  wide = width (type_at ts c) long

  in_use : c < length ts
  in_use = rw (types_count t l.narrow l.whole) h

  pub column-width : get_or p.widths c 0 ≡ wide
  column-width = ap (λ (q : Places). get_or q.widths c 0) l.is ∙ width-at ts long c in_use

  pub column-start : get_or p.starts c 0 ≡ p.rows * row_size_lem (take c ts) long
  column-start = ap (λ (q : Places). get_or q.starts c 0) l.is ∙ start_at ts long c in_use p.rows

  small : p.rows * row_size_lem ts long ≤ 16777216
  small = omega (arith, mul-le-mul_right {m = p.rows} {n = 65536} (row_size_lem ts long) l.few, size-le long ts, types_count t l.narrow l.whole, l.narrow)

  -- where the column's cells from a row on begin
  abbrev pub begins : ℕ → ℕ
  begins r = get_or p.starts c 0 + r * get_or p.widths c 0

  -- those of n rows lie within the stream, and its rows are small
  pub stretch : (r n : ℕ) → r + n ≤ p.rows → (begins r + n * form_width (form_for (type_at ts c) long) ≤ bytes) × (begins r ≤ 16777216)
  stretch r n k =
      let in_rows = column-within ts long p.rows c in_use in
      let those = mul-le-mul_right wide k in
      let sum = add-mul r n wide in
      let s = small in
      rw (column-start, column-width, ← form-width long (type_at ts c)) (omega (arith, l.within), omega arith)

  pub cell-read : (s : List ℕ) (first r : ℕ) → form_cell (form_for (type_at ts c) long) s (begins first) r ≡ cell_at ts long p.rows s (first + r) c
  cell-read s first r = rw (column-start, column-width) (form-cell ts long p.rows first s r c)

-- ---- what the calls know of the cells that were handed over

module _ (t : Table) (rows : ℕ) (kinds : List ℕ) (numbers : List ℤ) (whole : length t.columns ≡ 64) (narrow : t.count ≤ 64) (few : rows ≤ 65536)
    (kinds-are : length kinds ≡ rows * t.count) (numbers-are : length numbers ≡ rows * t.count) where
  abbrev pub bytes_in : ℕ → Answer (List ℕ)
  bytes_in = column_bytes (types_of t) t.long_string_refs rows (record { kinds = kinds; numbers = numbers })

  pub all_judged : refusal_of (table_bytes (types_of t) t.long_string_refs rows (record { kinds = kinds; numbers = numbers })) ≡ refusal_of (each bytes_in (from 0 t.count))
  all_judged =
      table_judged (types_of t) t.long_string_refs rows (record { kinds = kinds; numbers = numbers })
      ∙ ap (λ (n : ℕ). refusal_of (each bytes_in (from 0 n))) (types_count t narrow whole)

  module _ (c : ℕ) (h : c < t.count) where
    abbrev run : Stride
    run = record { column = c; step = t.count; rows = rows }

    abbrev form : CellForm
    form = form_for (type_at (types_of t) c) t.long_string_refs

    pub handed : Handed (length kinds) (length numbers) run
    handed = record { few = few; narrow = narrow; kinds-are = kinds-are; numbers-are = numbers-are; below = h }

    -- a column's cells, by its form
    pub by_form : refusal_of (bytes_in c) ≡ refusal_of (each (cell_number form kinds numbers run) (from 0 rows))
    by_form =
        column-judged (types_of t) t.long_string_refs rows (record { kinds = kinds; numbers = numbers }) c
        ∙ ap (λ (n : ℕ). refusal_of (each (cell_number form kinds numbers (record { column = c; step = n; rows = rows })) (from 0 rows))) (types_count t narrow whole)

    pub judge-said : judge_column_answer form kinds numbers run ≡ refusal_of (bytes_in c)
    judge-said = judge_handed form kinds numbers run handed ∙ sym by_form

    -- it has its place within the rows
    pub in-rows : rows * row_size_lem (take c (types_of t)) t.long_string_refs + rows * form_width form ≤ rows * row_size_lem (types_of t) t.long_string_refs
    in-rows = rw (← form-width t.long_string_refs (type_at (types_of t) c)) (column-within (types_of t) t.long_string_refs rows c (rw (types_count t narrow whole) h))

    pub next-place : rows * row_size_lem (take (c + 1) (types_of t)) t.long_string_refs ≡ rows * row_size_lem (take c (types_of t)) t.long_string_refs + rows * form_width form
    next-place =
        rw (← form-width t.long_string_refs (type_at (types_of t) c))
        (ap (λ (k : ℕ). rows * k) (size-next (types_of t) t.long_string_refs c (rw (types_count t narrow whole) h)) ∙ mul-add rows _ _)

    module _ (fine : refusal_of (bytes_in c) ≡ gives tt) where
      pub fine-by_form : refusal_of (each (cell_number form kinds numbers run) (from 0 rows)) ≡ gives tt
      fine-by_form = sym by_form ∙ fine

      pub bytes-by_form : plain (form_bytes form kinds numbers run) 0 rows ≡ given_bytes (bytes_in c)
      bytes-by_form =
          ap (λ (k : ℕ). plain (form_bytes form kinds numbers (record { column = c; step = k; rows = rows })) 0 rows) (sym (types_count t narrow whole))
          ∙ sym (column-bytes (types_of t) t.long_string_refs rows (record { kinds = kinds; numbers = numbers }) c fine)

      pub size-by_form : length (given_bytes (bytes_in c)) ≡ rows * form_width form
      size-by_form =
          column-length (types_of t) t.long_string_refs rows (record { kinds = kinds; numbers = numbers }) c fine
          ∙ ap (λ (w : ℕ). rows * w) (form-width t.long_string_refs (type_at (types_of t) c))

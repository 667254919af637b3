-- One column's cells: by its form, and by its type; and all columns.
use mathlib.Core.Path.{◌≡◌, sym, ◌∙◌, ap}
use mathlib.Core.Bool.{Bool}
use mathlib.Core.List.{List, [], ◌∷◌}
use Prim.Native.Nat.{ℕ, zero, suc, ◌+◌, ◌*◌, ◌<◌, ◌≤◌}
use native.Mathlib.Nat.{add-mul, mul-add, mul-zero, mul-le-mul_left, not-suc-le-zero, le_of_suc-le-suc}
use native.Mathlib.Numerals.{add-one}
use native.Mathlib.Omega.{arith}
use lib.IntN.{ℤ, pos}
use lib.ListN.{length, get_or, take, length-append}
use lib.Seq.{take_all}
use Rattle.common.specs.Lists.{joined, from}
use Rattle.common.specs.Answers.{Answer, gives, refused, cell, on_given, each, refusal_of}
use Rattle.little_endian.specs.Numbers.{bytes_of}
use Rattle.little_endian.proofs.Laws.{length-bytes}
use Rattle.cell.specs.declared.form.ColumnType.{ColumnType}
use Rattle.cell.specs.declared.form.CellForm.{CellForm}
use Rattle.cell.specs.Cells.{width}
use Rattle.cell.specs.Forms.{form_for}
use Rattle.cell.proofs.Cells.{form-width, form-stored, form_unstored}
use Rattle.column_cells.specs.declared.stride.Stride.{Stride}
use Rattle.widths.specs.Widths.{row_size_lem, type_at}
use Rattle.widths.proofs.Rows.{column-in}
use Rattle.table.specs.Rows.{cell_at}
use Rattle.table.specs.Writing.{Cells, cell_bytes, column_bytes, table_bytes}
use Rattle.table.specs.inner.Columns.{given_bytes, plain}
use Rattle.column_cells.specs.Strides.{form_width, cell_number, form_cell}
use Rattle.table.specs.inner.Strides.{form_bytes}
use Rattle.common.proofs.Answers.{given_refusal, each_same, each-made, fine-first}
use Rattle.table.proofs.Plain.{all-given, plain-length}

-- a cell that can be stored has as many bytes as its form is wide
fine-length : (f : CellForm) (kinds : List ℕ) (numbers : List ℤ) (run : Stride) (r : ℕ) → refusal_of (form_bytes f kinds numbers run r) ≡ gives tt → length (given_bytes (form_bytes f kinds numbers run r)) ≡ form_width f
fine-length f kinds numbers run r h = go (cell_number f kinds numbers run r) h
  where
    go : (a : Answer ℕ) → refusal_of (on_given a (λ n. gives (bytes_of (form_width f) n))) ≡ gives tt → length (given_bytes (on_given a (λ n. gives (bytes_of (form_width f) n)))) ≡ form_width f
    go (gives n) e = length-bytes (form_width f) n
    go (refused n at) e = absurd (let y : ◌≡◌ {A = ℕ} 0 1 = cc in omega arith)

-- the cells of a column are those of its form
form-bytes : (t : ColumnType) (long : Bool) (cells : Cells) (run : Stride) (r : ℕ) → form_bytes (form_for t long) cells.kinds cells.numbers run r ≡ cell_bytes t long run.step cells run.column r
form-bytes t long cells run r =
    let i = r * run.step + run.column in
    rw (form-width long t, form-stored long t (cell r run.column) (get_or cells.kinds i 0) (get_or cells.numbers i (pos 0)))

-- ---- a column of a table, by its form

module _ (ts : List ColumnType) (long : Bool) (rows : ℕ) (cells : Cells) (c : ℕ) where
  abbrev run : Stride
  run = record { column = c; step = length ts; rows = rows }

  abbrev form : CellForm
  form = form_for (type_at ts c) long

  abbrev bytes_of_row : ℕ → Answer (List ℕ)
  bytes_of_row = form_bytes form cells.kinds cells.numbers run

  each-form : each bytes_of_row (from 0 rows) ≡ each (cell_bytes (type_at ts c) long (length ts) cells c) (from 0 rows)
  each-form = each_same bytes_of_row (cell_bytes (type_at ts c) long (length ts) cells c) (from 0 rows) (λ r. form-bytes (type_at ts c) long cells run r)

  each-judged : refusal_of (column_bytes ts long rows cells c) ≡ refusal_of (each bytes_of_row (from 0 rows))
  each-judged = given_refusal (each (cell_bytes (type_at ts c) long (length ts) cells c) (from 0 rows)) (λ bytes. joined bytes) ∙ ap refusal_of (sym each-form)

  pub column-judged : refusal_of (column_bytes ts long rows cells c) ≡ refusal_of (each (cell_number form cells.kinds cells.numbers run) (from 0 rows))
  column-judged = each-judged ∙ each-made (cell_number form cells.kinds cells.numbers run) (bytes_of (form_width form)) (from 0 rows)

  pub column-bytes : refusal_of (column_bytes ts long rows cells c) ≡ gives tt → given_bytes (column_bytes ts long rows cells c) ≡ plain bytes_of_row 0 rows
  column-bytes h =
      let e = all-given bytes_of_row (from 0 rows) (sym each-judged ∙ h) in
      rw (← each-form, e)

  pub column-length : refusal_of (column_bytes ts long rows cells c) ≡ gives tt → length (given_bytes (column_bytes ts long rows cells c)) ≡ rows * width (type_at ts c) long
  column-length h =
      ap length (column-bytes h)
      ∙ plain-length bytes_of_row (form_width form) 0 rows (λ r. fine-length form cells.kinds cells.numbers run r) (sym each-judged ∙ h)
      ∙ ap (λ (w : ℕ). rows * w) (sym (form-width long (type_at ts c)))

-- ---- all columns

pub size-next : (ts : List ColumnType) (long : Bool) (c : ℕ) → c < length ts → row_size_lem (take (c + 1) ts) long ≡ row_size_lem (take c ts) long + width (type_at ts c) long
size-next [] long c h = absurd (not-suc-le-zero h)
size-next (t ∷ ts) long zero h = omega arith
size-next (t ∷ ts) long (suc c) h = rw add-one (omega (arith, rw add-one at (size-next ts long c (le_of_suc-le-suc h))))

module _ (ts : List ColumnType) (long : Bool) (rows : ℕ) (cells : Cells) where
  abbrev bytes_at : ℕ → Answer (List ℕ)
  bytes_at = column_bytes ts long rows cells

  pub table_judged : refusal_of (table_bytes ts long rows cells) ≡ refusal_of (each bytes_at (from 0 (length ts)))
  table_judged = given_refusal (each bytes_at (from 0 (length ts))) (λ bytes. joined bytes)

  pub table_given : refusal_of (table_bytes ts long rows cells) ≡ gives tt → table_bytes ts long rows cells ≡ gives (plain bytes_at 0 (length ts))
  table_given h = rw (all-given bytes_at (from 0 (length ts)) (sym table_judged ∙ h))

  pub columns_length : (c n : ℕ) → c + n ≡ length ts → refusal_of (each bytes_at (from c n)) ≡ gives tt → rows * row_size_lem (take c ts) long + length (plain bytes_at c n) ≡ rows * row_size_lem ts long
  columns_length c zero e h =
      let all : take c ts ≡ ts = take_all c ts (omega arith) in
      rw all (omega arith)
  columns_length c (suc n) e h =
      let p = fine-first bytes_at c (from (suc c) n) h in
      let l = column-length ts long rows cells c p.0 in
      let more = columns_length (suc c) n (omega arith) p.1 in
      let next : rows * row_size_lem (take (suc c) ts) long ≡ rows * row_size_lem (take c ts) long + rows * width (type_at ts c) long =
      ap (λ (k : ℕ). rows * k) (rw add-one at (size-next ts long c (omega arith))) ∙ mul-add rows _ _ in
      rw length-append (omega arith)

  pub table_length : refusal_of (table_bytes ts long rows cells) ≡ gives tt → length (plain bytes_at 0 (length ts)) ≡ rows * row_size_lem ts long
  table_length h =
      let z : rows * row_size_lem (take 0 ts) long ≡ 0 = mul-zero rows in
      omega (arith, columns_length 0 (length ts) (omega arith) (sym table_judged ∙ h))

-- a column lies within the rows
pub column-within : (ts : List ColumnType) (long : Bool) (rows c : ℕ) → c < length ts → rows * row_size_lem (take c ts) long + rows * width (type_at ts c) long ≤ rows * row_size_lem ts long
column-within ts long rows c h = rw mul-add at (mul-le-mul_left rows (column-in long ts c h))

-- ---- reading

-- the cell of a row, counted from `first` on, of a column that is read from there
pub form-cell : (ts : List ColumnType) (long : Bool) (rows first : ℕ) (s : List ℕ) (r c : ℕ)
    → form_cell (form_for (type_at ts c) long) s (rows * row_size_lem (take c ts) long + first * width (type_at ts c) long) r ≡ cell_at ts long rows s (first + r) c
form-cell ts long rows first s r c =
    let w = width (type_at ts c) long in
    let e : rows * row_size_lem (take c ts) long + first * w + r * w ≡ rows * row_size_lem (take c ts) long + (first + r) * w = omega (arith, add-mul first r w) in
    rw (← form-width long (type_at ts c), e, form_unstored long (type_at ts c))

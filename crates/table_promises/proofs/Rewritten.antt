-- What was read writes back.
use mathlib.Core.Path.{◌≡◌, sym, ◌∙◌, ap}
use mathlib.Core.Bool.{Bool, true}
use mathlib.Core.List.{List}
use Prim.Native.Nat.{ℕ, ◌+◌, ◌*◌, ◌<◌, ◌≤◌}
use native.Mathlib.Nat.{zero-mul, mul-zero, add-zero}
use native.Mathlib.Omega.{arith}
use lib.IntN.{ℤ, pos}
use lib.ListN.{length, get_or, take, drop}
use lib.Seq.{length-take-le, take_all, take_at}
use borrow.Author.Tests.{le-ltb, eq-eqb}
use Rattle.common.specs.Answers.{gives, cell}
use Rattle.common.proofs.Bools.{clash}
use Rattle.common.proofs.Answers.{each-given}
use Rattle.little_endian.specs.Numbers.{number_at}
use Rattle.little_endian.specs.Promises.{AreBytes}
use Rattle.little_endian.proofs.Laws.{number_lt, write_back}
use Rattle.cell.specs.declared.form.ColumnType.{ColumnType}
use Rattle.cell.specs.declared.form.ColumnType.TheVariants.{Int16, Int32, Str, Binary}
use Rattle.cell.specs.Cells.{is_binary_lem, width}
use Rattle.table.specs.declared.layout.Table.{Table}
use Rattle.table.specs.Layout.{types_of}
use Rattle.widths.specs.Widths.{row_size_lem, type_at}
use Rattle.widths.specs.Places.{cell_start}
use Rattle.widths.proofs.Judged.{columns_passed}
use Rattle.widths.proofs.Rows.{Found, found, rows_hold}
use Rattle.table.specs.Rows.{cell_at, row_by_row}
use Rattle.table.specs.Writing.{Cells, cell_bytes, column_bytes, table_bytes, written_rows}
use Rattle.column_cells.proofs.Strides.{next_le}
use Rattle.table.proofs.Layouts.{types_count}
use Rattle.table.proofs.Grid.{length-grid, grid_at}
use Rattle.table.proofs.Column.{column-within}
use Rattle.table_promises.specs.Promises.{ReadThenWrite}
use Rattle.cell.proofs.ReadBack.{stored-again}
use Rattle.table_promises.proofs.Agree.{read_is}
use Rattle.table_promises.proofs.Pieces.{equal-pieces, column-pieces}

module _ (t : Table) (s : List ℕ) (rows : ℕ) (whole : length t.columns ≡ 64) (bytes : AreBytes s) (small : (r c : ℕ) → r < rows → c < t.count → is_binary_lem (type_at (types_of t) c) ≡ true → number_at 2 s (cell_start (types_of t) t.long_string_refs rows r c) ≤ 1) (f : Found t.columns t.count t.long_string_refs (length s) rows) where
  abbrev ts : List ColumnType
  ts = types_of t

  abbrev long : Bool
  long = t.long_string_refs

  abbrev g : ℕ → ℕ → ℕ × ℤ
  g = cell_at ts long rows s

  abbrev cells : Cells
  cells = record { kinds = row_by_row (λ (r c : ℕ). (g r c).0) rows t.count; numbers = row_by_row (λ (r c : ℕ). (g r c).1) rows t.count }

  count : length ts ≡ t.count
  count = types_count t f.narrow whole

  pub holds : rows * row_size_lem ts long ≤ length s
  holds = rw f.is (rows_hold ts long (length s))

  -- the number of a Binary cell, which has two bytes
  few : (t : ColumnType) (at : ℕ) → (is_binary_lem t ≡ true → number_at 2 s at ≤ 1) → is_binary_lem t ≡ true → number_at (width t long) s at ≤ 1
  few Int16 at h e = clash (cc)
  few Int32 at h e = clash (cc)
  few (Str max) at h e = clash (cc)
  few Binary at h e = h e

  -- a cell's bytes
  one_cell : (c r : ℕ) → c < t.count → r < rows → cell_bytes (type_at ts c) long (length ts) cells c r ≡ gives (take (width (type_at ts c) long) (drop (rows * row_size_lem (take c ts) long + r * width (type_at ts c) long) s))
  one_cell c r hc hr =
      let w = width (type_at ts c) long in
      let at = rows * row_size_lem (take c ts) long + r * w in
      let i : r * t.count + c ≡ c + r * t.count = omega arith in
      let k : get_or cells.kinds (r * t.count + c) 0 ≡ (g r c).0 = rw i (grid_at (λ (a b : ℕ). (g a b).0) 0 t.count rows r c hr hc) in
      let n : get_or cells.numbers (r * t.count + c) (pos 0) ≡ (g r c).1 = rw i (grid_at (λ (a b : ℕ). (g a b).1) (pos 0) t.count rows r c hr hc) in
      let again = stored-again (type_at ts c) long (cell r c) (number_at w s at) (few (type_at ts c) at (small r c hr hc)) (number_lt w s at bytes) in
      let room : at + w ≤ length s = omega (arith, next_le r rows w hr, column-within ts long rows c (omega (arith, count)), holds) in
      rw (count, k, n, again, write_back w s at bytes room)

  one-column : (c : ℕ) → c < t.count → column_bytes ts long rows cells c ≡ gives (take (rows * width (type_at ts c) long) (drop (rows * row_size_lem (take c ts) long) s))
  one-column c hc =
      let w = width (type_at ts c) long in
      let start = rows * row_size_lem (take c ts) long in
      let all = each-given (cell_bytes (type_at ts c) long (length ts) cells c) (λ (r : ℕ). take w (drop (start + r * w) s)) 0 rows (λ r p q. one_cell c r hc (omega arith)) in
      rw (all, equal-pieces w start s 0 rows, zero-mul, add-zero)

  pub table_again : table_bytes ts long rows cells ≡ gives (take (rows * row_size_lem ts long) s)
  table_again =
      let n = count in
      let all = each-given (column_bytes ts long rows cells) (λ (c : ℕ). take (rows * width (type_at ts c) long) (drop (rows * row_size_lem (take c ts) long) s)) 0 (length ts) (λ c p q. one-column c (omega arith)) in
      let z : rows * row_size_lem (take 0 ts) long ≡ 0 = mul-zero rows in
      let e : rows * row_size_lem (take (0 + length ts) ts) long ≡ rows * row_size_lem ts long = ap (λ (l : List ColumnType). rows * row_size_lem l long) (take_all (0 + length ts) ts (omega arith)) in
      rw (all, column-pieces ts long rows s 0 (length ts) (rows * row_size_lem ts long) (omega arith) (omega arith), z)

pub read_then_write : ReadThenWrite
read_then_write t s rows kinds numbers out whole bytes small e k n room =
    let f = found t.columns t.count t.long_string_refs (length s) rows e in
    let ts = types_of t in
    let long = t.long_string_refs in
    let g = cell_at ts long rows s in
    let lk = length-grid (λ (a b : ℕ). (g a b).0) 0 t.count rows in
    let ln = length-grid (λ (a b : ℕ). (g a b).1) (pos 0) t.count rows in
    let count = types_count t f.narrow whole in
    let read = read_is t s rows kinds numbers e k n in
    let ok = take_at (row_by_row (λ (a b : ℕ). (g a b).0) rows t.count) (drop (length (row_by_row (λ (a b : ℕ). (g a b).0) rows t.count)) kinds) (rows * t.count) lk in
    let on = take_at (row_by_row (λ (a b : ℕ). (g a b).1) rows t.count) (drop (length (row_by_row (λ (a b : ℕ). (g a b).1) rows t.count)) numbers) (rows * t.count) ln in
    let cells : Cells = record { kinds = row_by_row (λ (r c : ℕ). (g r c).0) rows t.count; numbers = row_by_row (λ (r c : ℕ). (g r c).1) rows t.count } in
    let again = table_again t s rows whole bytes small f in
    let l : length (take (rows * row_size_lem ts long) s) ≡ rows * row_size_lem ts long = length-take-le (rows * row_size_lem ts long) s (holds t s rows whole bytes small f) in
    let ek : length cells.kinds ≡ rows * length ts = lk ∙ ap (λ (m : ℕ). rows * m) (sym count) in
    let en : length cells.numbers ≡ rows * length ts = ln ∙ ap (λ (m : ℕ). rows * m) (sym count) in (
      ap (λ (x : _). x.0) read,
      rw (read, ok, on, columns_passed {A = ℕ × List ℕ} t.columns t.count (written_rows ts long rows cells out) f.sound, le-ltb 65536 rows f.few, eq-eqb _ _ ek, eq-eqb _ _ en, again, le-ltb (length out) (length (take (rows * row_size_lem ts long) s)) (omega arith), l),
    )

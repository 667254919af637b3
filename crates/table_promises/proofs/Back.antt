-- What was written reads back.
use mathlib.Core.Path.{◌≡◌, refl, sym, ◌∙◌, ap}
use mathlib.Core.Bool.{Bool, true, false}
use mathlib.Core.List.{List, [], ◌∷◌, ◌++◌, append-nil}
use Prim.Native.Nat.{ℕ, zero, suc, ◌+◌, ◌-◌, ◌*◌, ◌/◌, ◌<◌, ◌≤◌}
use native.Mathlib.Nat.{zero-mul, mul-zero, add-zero, zero-add, mul-div_cancel, mul-le-mul_right}
use native.Mathlib.Omega.{arith}
use lib.Dec.{ltb, eqb, lit≤}
use lib.IntN.{ℤ, pos}
use lib.ListN.{length, get_or, take, drop, length-append, length-drop}
use lib.Seq.{take-append_seam, drop-drop, take-append-le, drop-append-le, drop_at}
use borrow.Author.Tests.{lt-ltb, le-ltb, ne_eqb, eqb-true, eqb-false}
use Rattle.common.specs.Choice.{when◌then◌else◌}
use Rattle.common.specs.Lists.{◌over◌, joined, from}
use Rattle.common.specs.Answers.{Place, nowhere, Answer, gives, refused, cell, each, refusal_of, on_given, outcome}
use Rattle.little_endian.specs.Numbers.{bytes_of, number_at}
use Rattle.little_endian.proofs.Laws.{read_back, length-bytes}
use Rattle.cell.specs.declared.form.ColumnType.{ColumnType}
use Rattle.cell.specs.declared.form.ColumnType.TheVariants.{Int16, Int32, Str, Binary}
use Rattle.column.specs.declared.column.Column.{Column}
use Rattle.cell.specs.Cells.{width, stored, unstored}
use Rattle.order.specs.Order.{bulk_fits_lem}
use Rattle.order.proofs.Cells.{bulk}
use Rattle.table.specs.declared.layout.Table.{Table}
use Rattle.widths.specs.Judged.{sound_columns}
use Rattle.widths.specs.Widths.{row_size_lem, type_at}
use Rattle.widths.specs.Places.{rows_in, rows_found}
use Rattle.widths.proofs.Judged.{count-few, columns_passed}
use Rattle.widths.proofs.Rows.{size-le}
use Rattle.table.specs.Layout.{types_of}
use Rattle.table.specs.Rows.{cell_at, row_by_row}
use Rattle.table.specs.Reading.{num_rows_answer, read_cell_answer, read_rows_outcome}
use Rattle.table.specs.Writing.{Cells, cell_bytes, column_bytes, table_bytes, write_rows_outcome}
use Rattle.table.specs.inner.Columns.{given_bytes, plain}
use Rattle.common.proofs.Answers.{given_refusal, fine-first, given, each-fine}
use Rattle.common.proofs.Bools.{clash}
use Rattle.common.proofs.Outcomes.{refused-gives}
use Rattle.common.proofs.Lists.{no_length}
use Rattle.column_cells.proofs.Strides.{next_le}
use Rattle.column_cells.proofs.Parts.{part_number}
use Rattle.table.proofs.Plain.{all-given}
use Rattle.table.proofs.Layouts.{types_count}
use Rattle.table.proofs.Grid.{length-grid, grid_same}
use Rattle.table.proofs.Column.{column-length, columns_length, table_judged, table_given, table_length}
use Rattle.cell.specs.Promises.{reads_as}
use Rattle.cell.proofs.ReadBack.{cell-read_back, stored-fits}
use Rattle.table_promises.specs.Promises.{handed_back, WriteThenRead}
use Rattle.table_promises.proofs.Agree.{read_is}
use Rattle.table_promises.proofs.Pieces.{equal-at, plain-split}

-- what a write that was not refused says
pub record Done (t : Table) (rows : ℕ) (cells : Cells) (out : List ℕ) (n : ℕ) (left : List ℕ) : Type 0 where
  pub sound : gives tt ≡ refusal_of (sound_columns t.columns t.count)
  pub narrow : t.count ≤ 64
  pub few : rows ≤ 65536
  pub fine : refusal_of (table_bytes (types_of t) t.long_string_refs rows cells) ≡ gives tt
  count : n ≡ length (given_bytes (table_bytes (types_of t) t.long_string_refs rows cells))
  is : left ≡ (given_bytes (table_bytes (types_of t) t.long_string_refs rows cells) over out)

pair : (a b : ℕ) (x y : List ℕ) → ◌≡◌ {A = Answer ℕ × List ℕ} (gives a, x) (gives b, y) → (a ≡ b) × (x ≡ y)
pair a b x y e = (given (ap (λ (p : Answer ℕ × List ℕ). p.0) e), ap (λ (p : Answer ℕ × List ℕ). p.1) e)

never_pair : (m n : ℕ) (at : Place) (x y : List ℕ) → ◌≡◌ {A = Answer ℕ × List ℕ} (refused m at, x) (gives n, y) → ⊥
never_pair m n at x y e = refused-gives (ap (λ (p : Answer ℕ × List ℕ). p.0) e)

module _ (t : Table) (rows : ℕ) (cells : Cells) (out : List ℕ) (n : ℕ) (left : List ℕ) where
  abbrev bytes : Answer (List ℕ)
  bytes = table_bytes (types_of t) t.long_string_refs rows cells

  abbrev order : Answer (Unit {0})
  order = bulk_fits_lem 65536 rows (length (types_of t)) (length cells.kinds) (length cells.numbers)

  pub done : write_rows_outcome t rows cells out ≡ (gives n, left) → Done t rows cells out n left
  done e = go (sound_columns t.columns t.count) refl order refl bytes refl e
    where
      room : (b : List ℕ) (d : Bool) → gives tt ≡ refusal_of (sound_columns t.columns t.count) → rows ≤ 65536 → bytes ≡ gives b
          → outcome {A = ℕ} out (when d then refused 7 nowhere else gives (length b, b over out)) ≡ (gives n, left) → Done t rows cells out n left
      room b true s f p q = absurd (never_pair 7 n nowhere out left q)
      room b false s f p q =
          let i = pair (length b) n (b over out) left q in
          record { sound = s; narrow = count-few t.columns t.count s; few = f; fine = rw p; count = rw p (sym i.0); is = rw p (sym i.1) }

      go : (x : Answer (List Column)) → sound_columns t.columns t.count ≡ x → (o : Answer (Unit {0})) → order ≡ o → (y : Answer (List ℕ)) → bytes ≡ y
          → outcome out (on_given x (λ xs. on_given o (λ z. on_given y (λ c. when ltb (length out) (length c) then refused 7 nowhere else gives (length c, c over out))))) ≡ (gives n, left)
          → Done t rows cells out n left
      go (refused m at) p o q y u f = absurd (never_pair m n at out left f)
      go (gives xs) p (refused m at) q y u f = absurd (never_pair m n at out left f)
      go (gives xs) p (gives z) q (refused m at) u f = absurd (never_pair m n at out left f)
      go (gives xs) p (gives z) q (gives c) u f = room c (ltb (length out) (length c)) (rw p) (bulk 65536 rows _ _ _ (sym q)).few u f

-- ---- where a cell's bytes stand

module _ (ts : List ColumnType) (long : Bool) (rows : ℕ) (cells : Cells) (fine : refusal_of (table_bytes ts long rows cells) ≡ gives tt) where
  abbrev columns : ℕ → Answer (List ℕ)
  columns = column_bytes ts long rows cells

  abbrev all : List ℕ
  all = plain columns 0 (length ts)

  fine-columns : refusal_of (each columns (from 0 (length ts))) ≡ gives tt
  fine-columns = sym (table_judged ts long rows cells) ∙ fine

  fine-from : (k c n : ℕ) → refusal_of (each columns (from k (c + suc n))) ≡ gives tt → refusal_of (each columns (from (k + c) (suc n))) ≡ gives tt
  fine-from k zero n e = rw add-zero (rw zero-add at e)
  fine-from k (suc c) n e =
      let i : suc c + suc n ≡ suc (c + suc n) = omega arith in
      let j : k + suc c ≡ suc k + c = omega arith in
      rw j (fine-from (suc k) c n (fine-first columns k (from (suc k) (c + suc n)) (rw i at e)).1)

  module _ (c : ℕ) (h : c < length ts) where
    abbrev after : ℕ
    after = length ts - suc c

    counted : c + suc after ≡ length ts
    counted = omega arith

    fine-here : refusal_of (each columns (from c (suc after))) ≡ gives tt
    fine-here =
        let e : refusal_of (each columns (from 0 (c + suc after))) ≡ gives tt = rw counted fine-columns in
        let z : 0 + c ≡ c = omega arith in
        rw z at (fine-from 0 c after e)

    fine-column : refusal_of (columns c) ≡ gives tt
    fine-column = (fine-first columns c (from (suc c) after) fine-here).0

    split : all ≡ plain columns 0 c ++ (given_bytes (columns c) ++ plain columns (suc c) after)
    split =
        let z : 0 + c ≡ c = omega arith in
        ap (plain columns 0) (sym counted) ∙ rw z at (plain-split columns 0 c after)

    before-length : length (plain columns 0 c) ≡ rows * row_size_lem (take c ts) long
    before-length =
        let l = table_length ts long rows cells fine in
        let m = columns_length ts long rows cells c (suc after) counted fine-here in
        let s = ap length split in
        omega (arith, rw (length-append, length-append) at s, length-append (given_bytes (columns c)) (plain columns (suc c) after))

    -- the column's own stretch
    stretch : drop (rows * row_size_lem (take c ts) long) all ≡ given_bytes (columns c) ++ plain columns (suc c) after
    stretch = rw split (drop_at (plain columns 0 c) (given_bytes (columns c) ++ plain columns (suc c) after) (rows * row_size_lem (take c ts) long) before-length)

    abbrev cells_of : ℕ → Answer (List ℕ)
    cells_of = cell_bytes (type_at ts c) long (length ts) cells c

    abbrev w : ℕ
    w = width (type_at ts c) long

    fine-cells : refusal_of (each cells_of (from 0 rows)) ≡ gives tt
    fine-cells = sym (given_refusal (each cells_of (from 0 rows)) (λ b. joined b)) ∙ fine-column

    column-is : given_bytes (columns c) ≡ plain cells_of 0 rows
    column-is = rw (all-given cells_of (from 0 rows) fine-cells)

    abbrev kind_at : ℕ → ℕ
    kind_at r = get_or cells.kinds (r * length ts + c) 0

    abbrev number_of : ℕ → ℤ
    number_of r = get_or cells.numbers (r * length ts + c) (pos 0)

    -- the number that a cell stores
    pub record Kept (r : ℕ) : Type 0 where
      pub number : ℕ
      pub stores : stored (type_at ts c) long (cell r c) (kind_at r) (number_of r) ≡ gives number
      bytes-are : given_bytes (cells_of r) ≡ bytes_of w number

    pub kept : (r : ℕ) → refusal_of (cells_of r) ≡ gives tt → Kept r
    kept r e = go (stored (type_at ts c) long (cell r c) (kind_at r) (number_of r)) refl e
      where
        go : (a : Answer ℕ) → stored (type_at ts c) long (cell r c) (kind_at r) (number_of r) ≡ a → refusal_of (on_given a (λ n. gives (bytes_of w n))) ≡ gives tt → Kept r
        go (gives n) p q = record { number = n; stores = p; bytes-are = rw p }
        go (refused n at) p q = absurd (refused-gives q)

    cell-length : (r : ℕ) → refusal_of (cells_of r) ≡ gives tt → length (given_bytes (cells_of r)) ≡ w
    cell-length r e = let k = kept r e in ap length k.bytes-are ∙ length-bytes w k.number

    module _ (r : ℕ) (p : r < rows) where
      -- the bytes of the cell, in their place
      in_place : take w (drop (rows * row_size_lem (take c ts) long + r * w) all) ≡ given_bytes (cells_of r)
      in_place =
          let g = given_bytes (columns c) in
          let rest = plain columns (suc c) after in
          let l = column-length ts long rows cells c fine-column in
          let n = next_le r rows w p in
          let d : length (drop (r * w) g) ≡ length g - r * w = length-drop (r * w) g in
          let z : 0 + r ≡ r = omega arith in
          ap (take w) (sym (drop-drop (r * w) (rows * row_size_lem (take c ts) long) all) ∙ ap (drop (r * w)) stretch ∙ drop-append-le (r * w) g rest (omega arith))
          ∙ take-append-le w (drop (r * w) g) rest (omega arith)
          ∙ ap (λ (x : List ℕ). take w (drop (r * w) x)) column-is
          ∙ equal-at cells_of w 0 rows r cell-length fine-cells p
          ∙ ap (λ (i : ℕ). given_bytes (cells_of i)) z

      pub fine-cell : refusal_of (cells_of r) ≡ gives tt
      fine-cell = let z : 0 + r ≡ r = omega arith in rw z at (each-fine cells_of 0 rows r fine-cells p)

      pub reads_back : cell_at ts long rows all r c ≡ reads_as (kind_at r) (number_of r)
      reads_back =
          let k = kept r fine-cell in
          let at = rows * row_size_lem (take c ts) long + r * w in
          let e : number_at w all at ≡ k.number =
          sym (part_number w w all at 0 (omega arith) ∙ ap (number_at w all) (add-zero at))
          ∙ ap (λ (x : List ℕ). number_at w x 0) (in_place ∙ k.bytes-are ∙ sym (append-nil (bytes_of w k.number)))
          ∙ read_back w k.number [] (stored-fits (type_at ts c) long (cell r c) (kind_at r) (number_of r) k.number k.stores) in
          ap (unstored (type_at ts c)) e ∙ cell-read_back (type_at ts c) long (cell r c) (kind_at r) (number_of r) k.number k.stores

-- ---- the whole table

size-ge : (long : Bool) (ts : List ColumnType) → length ts ≤ row_size_lem ts long
size-ge long [] = omega arith
size-ge long (t ∷ ts) = omega (arith, size-ge long ts, width-ge t long)
  where
    width-ge : (t : ColumnType) (long : Bool) → 1 ≤ width t long
    width-ge Int16 long = lit≤ tt
    width-ge Int32 long = lit≤ tt
    width-ge (Str max) true = lit≤ tt
    width-ge (Str max) false = lit≤ tt
    width-ge Binary long = lit≤ tt

rows_back : (size rows n : ℕ) (b : Bool) → eqb size 0 ≡ b → n ≡ rows * size → b ≡ false → (when b then 0 else n / size) ≡ rows
rows_back size rows n true e q z = clash (cc)
rows_back size rows n false e q z =
    let p = eqb-false size 0 e in
    rw q (mul-div_cancel rows (positive size p))
  where
    positive : (k : ℕ) → (k ≡ 0 → ⊥) → 0 < k
    positive zero y = absurd (y refl)
    positive (suc k) y = omega arith

module _ (t : Table) (rows : ℕ) (cells : Cells) (whole : length t.columns ≡ 64) (sound : gives tt ≡ refusal_of (sound_columns t.columns t.count)) (narrow : t.count ≤ 64) (few : rows ≤ 65536) (fine : refusal_of (table_bytes (types_of t) t.long_string_refs rows cells) ≡ gives tt) where
  abbrev types : List ColumnType
  types = types_of t

  abbrev long-refs : Bool
  long-refs = t.long_string_refs

  abbrev stream : List ℕ
  stream = plain (column_bytes types long-refs rows cells) 0 (length types)

  long : length stream ≡ rows * row_size_lem types long-refs
  long = table_length types long-refs rows cells fine

  small : length stream ≤ 268435455
  small =
      let c = types_count t narrow whole in
      omega (arith, long, mul-le-mul_right {m = rows} {n = 65536} (row_size_lem types long-refs) few, size-le long-refs types, narrow)

  found_rows : (n : ℕ) → rows_in types long-refs (length stream) ≡ n → n ≤ 65536 → num_rows_answer t stream ≡ gives n
  found_rows n e h = rw (le-ltb 268435455 (length stream) small, columns_passed t.columns t.count (rows_found types long-refs (length stream)) sound, e, le-ltb 65536 n h)

  -- where a row has bytes, all rows are found again
  all-rows : eqb (row_size_lem types long-refs) 0 ≡ false → num_rows_answer t stream ≡ gives rows
  all-rows e = found_rows rows (rw e (rows_back (row_size_lem types long-refs) rows (length stream) false e long refl)) few

  cell-back : (r c : ℕ) → r < rows → c < t.count → cell_at types long-refs rows stream r c ≡ handed_back t cells r c
  cell-back r c p q =
      let n = types_count t narrow whole in
      reads_back types long-refs rows cells fine c (omega arith) r p
      ∙ ap (λ (x : ℕ). reads_as (get_or cells.kinds (r * x + c) 0) (get_or cells.numbers (r * x + c) (pos 0))) n

  pub place_back : (r c : ℕ) → r < rows → c < t.count → read_cell_answer t stream r c ≡ gives (handed_back t cells r c)
  place_back r c p q =
      let n = types_count t narrow whole in
      let some = ne_eqb (row_size_lem types long-refs) 0 (λ z. omega (arith, size-ge long-refs types)) in
      rw (all-rows some, lt-ltb r rows p, lt-ltb c t.count q, cell-back r c p q)

  module _ (kinds : List ℕ) (numbers : List ℤ) (k : rows * t.count ≤ length kinds) (m : rows * t.count ≤ length numbers) where
    abbrev Result : Type 0
    Result = read_rows_outcome t stream kinds numbers
        ≡ (gives (rows * t.count), (row_by_row (λ (r c : ℕ). (handed_back t cells r c).0) rows t.count over kinds, row_by_row (λ (r c : ℕ). (handed_back t cells r c).1) rows t.count over numbers))

    by_size : (b : Bool) → eqb (row_size_lem types long-refs) 0 ≡ b → Result
    by_size false e =
        let g = cell_at types long-refs rows stream in
        let read = read_is t stream rows kinds numbers (all-rows e) k m in
        let x = grid_same (λ (r c : ℕ). (g r c).0) (λ (r c : ℕ). (handed_back t cells r c).0) 0 rows t.count (λ r c p q. ap (λ (v : ℕ × ℤ). v.0) (cell-back r c p q)) in
        let y = grid_same (λ (r c : ℕ). (g r c).1) (λ (r c : ℕ). (handed_back t cells r c).1) (pos 0) rows t.count (λ r c p q. ap (λ (v : ℕ × ℤ). v.1) (cell-back r c p q)) in
        read ∙ rw (x, y)
    by_size true e =
        let n = types_count t narrow whole in
        let z = eqb-true (row_size_lem types long-refs) 0 e in
        let c : t.count ≡ 0 = omega (arith, size-ge long-refs types) in
        let q : rows * t.count ≡ 0 = rw (c, mul-zero) in
        let found = found_rows 0 (rw e) (omega arith) in
        let y : 0 * t.count ≡ 0 = zero-mul t.count in
        let read = read_is t stream 0 kinds numbers found (omega arith) (omega arith) in
        let u = no_length (row_by_row (λ (r c : ℕ). (handed_back t cells r c).0) rows t.count) (length-grid (λ (r c : ℕ). (handed_back t cells r c).0) 0 t.count rows ∙ q) in
        let v = no_length (row_by_row (λ (r c : ℕ). (handed_back t cells r c).1) rows t.count) (length-grid (λ (r c : ℕ). (handed_back t cells r c).1) (pos 0) t.count rows ∙ q) in
        read ∙ rw (u, v, y, q)

    pub table_back : Result
    table_back = by_size (eqb (row_size_lem types long-refs) 0) refl

-- the bytes that were written
pub written-bytes : (t : Table) (rows : ℕ) (cells : Cells) (out : List ℕ) (n : ℕ) (left : List ℕ) → Done t rows cells out n left
    → take n left ≡ plain (column_bytes (types_of t) t.long_string_refs rows cells) 0 (length (types_of t))
written-bytes t rows cells out n left d =
    let x = given_bytes (table_bytes (types_of t) t.long_string_refs rows cells) in
    rw (d.is, d.count) (take-append_seam x (drop (length x) out)) ∙ ap given_bytes (table_given (types_of t) t.long_string_refs rows cells d.fine)

pub write_then_read : WriteThenRead
write_then_read t rows cells out n left kinds numbers whole e k m =
    let d = done t rows cells out n left e in
    rw (written-bytes t rows cells out n left d) (table_back t rows cells whole d.sound d.narrow d.few d.fine kinds numbers k m)

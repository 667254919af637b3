-- Integers in a table: those that were written are within their column's range and read back; all others are refused.
use mathlib.Core.Path.{◌≡◌, refl, sym, ◌∙◌, ap}
use mathlib.Core.Bool.{Bool, true}
use mathlib.Core.List.{List}
use Prim.Native.Nat.{ℕ, ◌+◌, ◌*◌, ◌<◌, ◌≤◌}
use native.Mathlib.Nat.{zero-add}
use native.Mathlib.Omega.{arith}
use lib.Dec.{lit≤}
use lib.IntN.{ℤ, pos, negsuc, nat_abs}
use lib.ListN.{length, get_or}
use borrow.Author.Tests.{le-ltb, le-leb, eq-eqb}
use Rattle.common.specs.Lists.{joined, from}
use Rattle.common.specs.Answers.{Place, Answer, gives, refused, cell, each, refusal_of, outcome}
use Rattle.order.specs.Order.{bulk_fits_lem}
use Rattle.little_endian.specs.Numbers.{bytes_of}
use Rattle.cell.specs.declared.form.ColumnType.{ColumnType}
use Rattle.cell.specs.declared.form.ColumnType.TheVariants.{Int16, Int32, Str, Binary}
use Rattle.cell.specs.Cells.{width, stored}
use Rattle.cell.specs.Promises.{reads_as}
use Rattle.cell.proofs.Numbers.{integer-number}
use Rattle.table.specs.declared.layout.Table.{Table}
use Rattle.table.specs.Layout.{types_of}
use Rattle.widths.specs.Widths.{type_at}
use Rattle.widths.proofs.Judged.{count-few, columns_passed}
use Rattle.table.specs.Writing.{Cells, cell_bytes, column_bytes, written_rows, write_rows_answer, write_rows_outcome}
use Rattle.common.proofs.Answers.{given_refusal, refused-is, first_refused, none-refused}
use Rattle.table.proofs.Layouts.{types_count}
use Rattle.table.proofs.Column.{table_judged}
use Rattle.table.proofs.Answers.{bad-cell}
use Rattle.table_promises.specs.Promises.{is_integer, half_of, IntAt, IntegersKept, Int16Kept, Int32Kept, Stored, OutsideRefused, OutsideIs17, SmallestRefused, FortyThousand}
use Rattle.common.proofs.Bools.{clash}
use Rattle.table_promises.proofs.Back.{done, kept, fine-cell, place_back, written-bytes}

-- ---- one cell

within : (type : ColumnType) (long : Bool) (at : Place) (n : ℤ) (m : ℕ) → is_integer type ≡ true → stored type long at 1 n ≡ gives m → nat_abs n < half_of type
within Int16 long at n m i e = (integer-number 32768 at n m e).0
within Int32 long at n m i e = (integer-number 2147483648 at n m e).0
within (Str max) long at n m i e = clash (cc)
within Binary long at n m i e = clash (cc)

outside : (type : ColumnType) (long : Bool) (at : Place) (n : ℤ) → is_integer type ≡ true → half_of type ≤ nat_abs n → stored type long at 1 n ≡ refused 17 at
outside Int16 long at n i h = rw (le-leb 32768 (nat_abs n) h)
outside Int32 long at n i h = rw (le-leb 2147483648 (nat_abs n) h)
outside (Str max) long at n i h = clash (cc)
outside Binary long at n i h = clash (cc)

-- the cell of the table, as it is stored
this_cell : {type : ColumnType} {n : ℤ} {t : Table} {rows : ℕ} {cells : Cells} {r c : ℕ} → IntAt type n t rows cells r c → length (types_of t) ≡ t.count
    → stored (type_at (types_of t) c) t.long_string_refs (cell r c) (get_or cells.kinds (r * length (types_of t) + c) 0) (get_or cells.numbers (r * length (types_of t) + c) (pos 0)) ≡ stored type t.long_string_refs (cell r c) 1 n
this_cell x count = rw (count, x.typed, ap (λ (v : ℕ × ℤ). v.0) x.cell-is, ap (λ (v : ℕ × ℤ). v.1) x.cell-is)

-- ---- kept

pub integers_kept : IntegersKept
integers_kept type i n t rows cells out r c m left x e =
    let d = done t rows cells out m left e in
    let ts = types_of t in
    let long = t.long_string_refs in
    let count = types_count t d.narrow x.whole in
    let h : c < length ts = omega (arith, x.column) in
    let k = kept ts long rows cells d.fine c h r (fine-cell ts long rows cells d.fine c h r x.row) in
    let s = sym (this_cell x count) ∙ k.stores in
    let back = place_back t rows cells x.whole d.sound d.narrow d.few d.fine r c x.row x.column in
    (within type long (cell r c) n k.number i s, rw (written-bytes t rows cells out m left d) (back ∙ ap (λ (v : ℕ × ℤ). gives (reads_as v.0 v.1)) x.cell-is))

pub int16-kept : Int16Kept
int16-kept = integers_kept Int16 refl

pub int32_kept : Int32Kept
int32_kept = integers_kept Int32 refl

-- ---- refused

pub outside_refused : OutsideRefused
outside_refused type n i h t rows cells out r c x = go (write_rows_answer t rows cells out) refl
  where
    go : (a : Answer (ℕ × List ℕ)) → write_rows_answer t rows cells out ≡ a → (m : ℕ) × (at : Place) × (write_rows_outcome t rows cells out ≡ (refused m at, out))
    go (gives v) e = absurd (let y = (integers_kept type i n t rows cells out r c v.0 v.1 x (ap (outcome out) e)).0 in omega arith)
    go (refused m at) e = (m, at, ap (outcome out) e)

pub outside_is_17 : OutsideIs17
outside_is_17 type n i h t rows cells out r c x f =
    let ts = types_of t in
    let long = t.long_string_refs in
    let count = types_count t (count-few t.columns t.count (sym f.columns_sound)) x.whole in
    let fine : (a b : ℕ) → Stored t cells a b → refusal_of (cell_bytes (type_at ts b) long (length ts) cells b a) ≡ gives tt =
    λ a b e. given_refusal (stored (type_at ts b) long (cell a b) (get_or cells.kinds (a * length ts + b) 0) (get_or cells.numbers (a * length ts + b) (pos 0))) (bytes_of (width (type_at ts b) long)) ∙ rw count e in
    let column-fine : (b : ℕ) → b < c → refusal_of (column_bytes ts long rows cells b) ≡ gives tt =
    λ b p. given_refusal (each (cell_bytes (type_at ts b) long (length ts) cells b) (from 0 rows)) joined ∙ none-refused (cell_bytes (type_at ts b) long (length ts) cells b) 0 rows (λ a u v. fine a b (f.columns_before a b (omega arith) p)) in
    let cell-bad : cell_bytes (type_at ts c) long (length ts) cells c (0 + r) ≡ refused 17 (cell r c) =
    ap (λ (k : ℕ). cell_bytes (type_at ts c) long (length ts) cells c k) (zero-add r) ∙ rw (this_cell x count, outside type long (cell r c) n i h) in
    let column-bad : column_bytes ts long rows cells (0 + c) ≡ refused 17 (cell r c) =
    ap (column_bytes ts long rows cells) (zero-add c)
    ∙ refused-is (column_bytes ts long rows cells c) 17 (cell r c)
    (given_refusal (each (cell_bytes (type_at ts c) long (length ts) cells c) (from 0 rows)) joined
    ∙ first_refused (cell_bytes (type_at ts c) long (length ts) cells c) 0 rows r 17 (cell r c) x.row (λ a u v. fine a c (f.rows_before a (omega arith))) cell-bad) in
    let bad = table_judged ts long rows cells ∙ first_refused (column_bytes ts long rows cells) 0 (length ts) c 17 (cell r c) (omega (arith, x.column)) (λ b u v. column-fine b (omega arith)) column-bad in
    let fit : gives tt ≡ bulk_fits_lem 65536 rows (length ts) (length cells.kinds) (length cells.numbers) =
    rw (count, le-ltb 65536 rows f.few, eq-eqb _ _ f.kinds-all, eq-eqb _ _ f.numbers-all) in
    ap (outcome out) (columns_passed {A = ℕ × List ℕ} t.columns t.count (written_rows ts long rows cells out) (sym f.columns_sound) ∙ bad-cell ts long rows cells out fit 17 (cell r c) (sym bad))

pub smallest_refused : SmallestRefused
smallest_refused =
    let a = lit≤ tt in
    let b = lit≤ tt in
    (outside_refused Int16 (negsuc 32767) refl a, outside_is_17 Int16 (negsuc 32767) refl a, outside_refused Int32 (negsuc 2147483647) refl b, outside_is_17 Int32 (negsuc 2147483647) refl b)

pub forty_thousand : FortyThousand
forty_thousand = (outside_refused Int16 (pos 40000) refl (lit≤ tt), outside_is_17 Int16 (pos 40000) refl (lit≤ tt))

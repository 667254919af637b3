-- What is promised of tables: what was written reads back, and what was read writes back. A layout has 64 places.
use Rattle.std.specs.Prelude.{ℕ, ◌+◌, ◌*◌, ◌≤◌, ◌<◌, ◌≡◌, Bool, true, false, List, ℤ, pos, negsuc, nat_abs, length, take, get_or}
use Rattle.common.specs.Lists.{◌over◌}
use Rattle.common.specs.Answers.{Place, gives, refused, cell, refusal_of}
use Rattle.little_endian.specs.Numbers.{number_at}
use Rattle.little_endian.specs.Promises.{AreBytes}
use Rattle.cell.specs.declared.form.ColumnType.{ColumnType}
use Rattle.cell.specs.declared.form.ColumnType.TheVariants.{Int16, Int32, Str, Binary}
use Rattle.cell.specs.Cells.{is_binary_lem, stored}
use Rattle.cell.specs.Promises.{reads_as}
use Rattle.table.specs.declared.layout.Table.{Table}
use Rattle.widths.specs.Judged.{sound_columns}
use Rattle.widths.specs.Widths.{row_size_lem, type_at}
use Rattle.widths.specs.Places.{cell_start}
use Rattle.table.specs.Layout.{types_of}
use Rattle.table.specs.Rows.{row_by_row}
use Rattle.table.specs.Reading.{num_rows_answer, read_cell_answer, read_rows_outcome}
use Rattle.table.specs.Writing.{Cells, write_rows_outcome}

-- demand 2: "Tables within the limits, read and rewritten without Binary columns at equal reference width, give back the bytes of their complete rows."
-- With document 02, E6: "Rewriting now also reproduces complete rows with Binary columns, provided every such cell holds 0 or 1."
abbrev pub ReadThenWrite : Type 0
ReadThenWrite = (t : Table) (s : List ℕ) (rows : ℕ) (kinds : List ℕ) (numbers : List ℤ) (out : List ℕ) → length t.columns ≡ 64 → AreBytes s
    → ((r c : ℕ) → r < rows → c < t.count → is_binary_lem (type_at (types_of t) c) ≡ true → number_at 2 s (cell_start (types_of t) t.long_string_refs rows r c) ≤ 1)
    → num_rows_answer t s ≡ gives rows → rows * t.count ≤ length kinds → rows * t.count ≤ length numbers
    → rows * row_size_lem (types_of t) t.long_string_refs ≤ length out
    → let read = read_rows_outcome t s kinds numbers in
    let cells = rows * t.count in
    let bytes = rows * row_size_lem (types_of t) t.long_string_refs in
    (read.0 ≡ gives cells) × (write_rows_outcome t rows (record { kinds = take cells read.1.0; numbers = take cells read.1.1 }) out ≡ (gives bytes, take bytes s over out))

-- the cell at row r, column c of those handed in: its kind and its number, and how it reads
abbrev pub handed : Table → Cells → ℕ → ℕ → ℕ × ℤ
handed t cells r c = (get_or cells.kinds (r * t.count + c) 0, get_or cells.numbers (r * t.count + c) (pos 0))

abbrev pub handed_back : Table → Cells → ℕ → ℕ → ℕ × ℤ
handed_back t cells r c = reads_as (handed t cells r c).0 (handed t cells r c).1

-- what was written reads as the cells handed in; what stands past them in the outputs stays
abbrev pub WriteThenRead : Type 0
WriteThenRead = (t : Table) (rows : ℕ) (cells : Cells) (out : List ℕ) (n : ℕ) (left : List ℕ) (kinds : List ℕ) (numbers : List ℤ) → length t.columns ≡ 64
    → write_rows_outcome t rows cells out ≡ (gives n, left) → rows * t.count ≤ length kinds → rows * t.count ≤ length numbers
    → read_rows_outcome t (take n left) kinds numbers
    ≡ (gives (rows * t.count), (row_by_row (λ (r c : ℕ). (handed_back t cells r c).0) rows t.count over kinds, row_by_row (λ (r c : ℕ). (handed_back t cells r c).1) rows t.count over numbers))

-- a bulk read agrees with a read by place at every place
abbrev pub ReadsAgree : Type 0
ReadsAgree = (t : Table) (s : List ℕ) (rows : ℕ) (kinds : List ℕ) (numbers : List ℤ) (r c : ℕ) → num_rows_answer t s ≡ gives rows
    → rows * t.count ≤ length kinds → rows * t.count ≤ length numbers → r < rows → c < t.count
    → let read = (read_rows_outcome t s kinds numbers).1 in
    read_cell_answer t s r c ≡ gives (get_or read.0 (r * t.count + c) 0, get_or read.1 (r * t.count + c) (pos 0))

-- ---- integers in tables: none changes its number on the way through one, and none disappears

-- the two integer columns, and half the numbers of each one's width: by 01 it holds n + half, and by document 02, E2, it takes the numbers
-- less than half away from 0
abbrev pub is_integer : ColumnType → Bool
is_integer Int16 = true
is_integer Int32 = true
is_integer (Str max) = false
is_integer Binary = false

abbrev pub half_of : ColumnType → ℕ
half_of Int16 = 32768
half_of Int32 = 2147483648
half_of (Str max) = 0
half_of Binary = 0

-- the cell at row r, column c of those handed in is the Int n, and its column is of this type
pub record IntAt (type : ColumnType) (n : ℤ) (t : Table) (rows : ℕ) (cells : Cells) (r c : ℕ) : Type 0 where
  pub whole : length t.columns ≡ 64
  pub row : r < rows
  pub column : c < t.count
  pub typed : type_at (types_of t) c ≡ type
  pub cell-is : handed t cells r c ≡ (1, n)

-- of a table that was written every Int is within its column's range, and reads back as itself
abbrev pub Kept : ColumnType → Type 0
Kept type = (n : ℤ) (t : Table) (rows : ℕ) (cells : Cells) (out : List ℕ) (r c m : ℕ) (left : List ℕ) → IntAt type n t rows cells r c → write_rows_outcome t rows cells out ≡ (gives m, left)
    → (nat_abs n < half_of type) × (read_cell_answer t (take m left) r c ≡ gives (1, n))

abbrev pub IntegersKept : Type 0
IntegersKept = (type : ColumnType) → is_integer type ≡ true → Kept type

abbrev pub Int16Kept : Type 0
Int16Kept = Kept Int16

abbrev pub Int32Kept : Type 0
Int32Kept = Kept Int32

-- a table with the Int n in a column of this type is refused, whatever else it holds, and the output is as it was
abbrev pub NeverWritten : ColumnType → ℤ → Type 0
NeverWritten type n = (t : Table) (rows : ℕ) (cells : Cells) (out : List ℕ) (r c : ℕ) → IntAt type n t rows cells r c
    → (m : ℕ) × (at : Place) × (write_rows_outcome t rows cells out ≡ (refused m at, out))

-- the cell at row r, column c of those handed in can be stored
abbrev pub Stored : Table → Cells → ℕ → ℕ → Type 0
Stored t cells r c = refusal_of (stored (type_at (types_of t) c) t.long_string_refs (cell r c) (handed t cells r c).0 (handed t cells r c).1) ≡ gives tt

-- what comes before the cell at row r, column c is not at fault: 20 and 19 of the columns, 14, 23, and, in column order, then row, the
-- cells before it
pub record First (t : Table) (rows : ℕ) (cells : Cells) (r c : ℕ) : Type 0 where
  pub columns_sound : refusal_of (sound_columns t.columns t.count) ≡ gives tt
  pub few : rows ≤ 65536
  pub kinds-all : length cells.kinds ≡ rows * t.count
  pub numbers-all : length cells.numbers ≡ rows * t.count
  pub columns_before : (x y : ℕ) → x < rows → y < c → Stored t cells x y
  pub rows_before : (x : ℕ) → x < r → Stored t cells x c

-- then it is refused with 17 at its place
abbrev pub RefusedWith17 : ColumnType → ℤ → Type 0
RefusedWith17 type n = (t : Table) (rows : ℕ) (cells : Cells) (out : List ℕ) (r c : ℕ) → IntAt type n t rows cells r c → First t rows cells r c
    → write_rows_outcome t rows cells out ≡ (refused 17 (cell r c), out)

abbrev pub OutsideRefused : Type 0
OutsideRefused = (type : ColumnType) (n : ℤ) → is_integer type ≡ true → half_of type ≤ nat_abs n → NeverWritten type n

abbrev pub OutsideIs17 : Type 0
OutsideIs17 = (type : ColumnType) (n : ℤ) → is_integer type ≡ true → half_of type ≤ nat_abs n → RefusedWith17 type n

-- E2: "Refuse the smallest integer in both integer columns"
abbrev pub SmallestRefused : Type 0
SmallestRefused =
    NeverWritten Int16 (negsuc 32767) × RefusedWith17 Int16 (negsuc 32767)
    × NeverWritten Int32 (negsuc 2147483647) × RefusedWith17 Int32 (negsuc 2147483647)

-- the file number that was once cut to 16 bits
abbrev pub FortyThousand : Type 0
FortyThousand = NeverWritten Int16 (pos 40000) × RefusedWith17 Int16 (pos 40000)

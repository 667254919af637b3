-- Points: what a column stores and reads at the bounds of 01's and 02's rules and one past them, and which refusal comes first, each
-- computed from the definition.
use Rattle.std.specs.Prelude.{◌≡◌, Bool, true, false, ℕ, List, [], ◌∷◌, ℤ, pos, negsuc}
use Rattle.common.specs.Answers.{Place, gives, refused, column, on_given}
use Rattle.little_endian.specs.Numbers.{bytes_of}
use Rattle.cell.specs.declared.form.ColumnType.{ColumnType}
use Rattle.cell.specs.declared.form.ColumnType.TheVariants.{Int16, Int32, Str, Binary}
use Rattle.cell.specs.declared.value.Cell.TheVariants as cells
use Rattle.cell.specs.Handed.{unknown, cell_of}
use Rattle.cell.specs.Cells.{width, stored, unstored}
use Rattle.cell.specs.Forms.{sound_type, form_answer}

-- at either width of references, wherever the cell stands: it is stored as this number, or refused with that one
abbrev pub Stored : ColumnType → ℕ → ℤ → ℕ → Type 0
Stored t kind n m = (long : Bool) (at : Place) → stored t long at kind n ≡ gives m

abbrev pub Refused : ColumnType → ℕ → ℤ → ℕ → Type 0
Refused t kind n refusal = (long : Bool) (at : Place) → stored t long at kind n ≡ refused refusal at

-- the same at one width of references, whatever the maximum
abbrev pub ReferenceStored : Bool → ℕ → ℤ → ℕ → Type 0
ReferenceStored long kind n m = (max : ℕ) (at : Place) → stored (Str max) long at kind n ≡ gives m

abbrev pub ReferenceRefused : Bool → ℕ → ℤ → ℕ → Type 0
ReferenceRefused long kind n refusal = (max : ℕ) (at : Place) → stored (Str max) long at kind n ≡ refused refusal at

-- ---- document 01

-- "8 reference number below 1 or above 16,777,215": -1 and 0 are, 1 is not; 16,777,215 is not, 16,777,216 is
abbrev pub ReferenceBounds : Type 0
ReferenceBounds =
    ReferenceRefused true 2 (negsuc 0) 8 × ReferenceRefused true 2 (pos 0) 8 × ReferenceStored true 2 (pos 1) 1
    × ReferenceStored true 2 (pos 16777215) 16777215 × ReferenceRefused true 2 (pos 16777216) 8
    × ReferenceRefused false 2 (pos 0) 8 × ReferenceStored false 2 (pos 1) 1

-- "18 reference above 65,535 in a short table": 65,535 is stored there, 65,536 is 18, and stored where references are long
abbrev pub ShortBounds : Type 0
ShortBounds =
    ReferenceStored false 2 (pos 65535) 65535 × ReferenceRefused false 2 (pos 65536) 18 × ReferenceStored true 2 (pos 65536) 65536
    × ReferenceRefused false 2 (pos 16777215) 18

-- "8 and 18": a number that both would refuse, 16,777,216 in a short table, is 8
abbrev pub RangeBeforeShort : Type 0
RangeBeforeShort = ReferenceRefused false 2 (pos 16777216) 8

-- "a cell of any other kind is refused with 16 before its number is looked at": Int, Binary and an unknown kind with a number that is 8, or 18
abbrev pub KindBeforeReference : Type 0
KindBeforeReference =
    ((long : Bool) → ReferenceRefused long 1 (pos 0) 16) × ((long : Bool) → ReferenceRefused long 3 (pos 0) 16) × ((long : Bool) → ReferenceRefused long 4 (pos 0) 16)
    × ReferenceRefused false 1 (pos 65536) 16 × ReferenceRefused false 1 (pos 16777216) 16

-- and so before 17: 40,000 of another kind in an Int16 column
abbrev pub KindBeforeRange : Type 0
KindBeforeRange = Refused Int16 2 (pos 40000) 16 × Refused Int16 3 (pos 40000) 16 × Refused Int16 4 (pos 40000) 16 × Refused Int16 1 (pos 40000) 17

-- "Str maximum above 255": 255 is sound, 256 is 19 at its column
abbrev pub MaximumBounds : Type 0
MaximumBounds =
    ((c : ℕ) → sound_type c (Str 255) ≡ gives (Str 255)) × ((c : ℕ) → sound_type c (Str 256) ≡ refused 19 (column c))
    × ((c : ℕ) (long : Bool) → form_answer c (Str 256) long ≡ refused 19 (column c))

-- "0 for Null" in every column, whatever its number
abbrev pub NullStored : Type 0
NullStored = (n : ℤ) → Stored Int16 0 n 0 × Stored Int32 0 n 0 × ((max : ℕ) → Stored (Str max) 0 n 0) × Stored Binary 0 n 0

-- the bytes of a cell that is stored
abbrev pub Bytes : ColumnType → Bool → ℕ → ℤ → List ℕ → Type 0
Bytes t long kind n bytes = (at : Place) → on_given (stored t long at kind n) (λ m. gives (bytes_of (width t long) m)) ≡ gives bytes

-- "Int16 holds n + 32,768 in two bytes, Int32 n + 2,147,483,648 in four"; "Str holds the number in two or three bytes"; Binary "writes 01 00"
abbrev pub BytesOfEach : Type 0
BytesOfEach =
    Bytes Int16 false 1 (pos 1) (1 ∷ 128 ∷ []) × Bytes Int16 false 1 (negsuc 0) (255 ∷ 127 ∷ []) × Bytes Int16 true 1 (pos 0) (0 ∷ 128 ∷ [])
    × Bytes Int32 false 1 (pos 1) (1 ∷ 0 ∷ 0 ∷ 128 ∷ []) × Bytes Int32 false 1 (negsuc 0) (255 ∷ 255 ∷ 255 ∷ 127 ∷ [])
    × Bytes (Str 8) false 2 (pos 258) (2 ∷ 1 ∷ []) × Bytes (Str 8) true 2 (pos 66051) (3 ∷ 2 ∷ 1 ∷ []) × Bytes (Str 8) true 0 (pos 9) (0 ∷ 0 ∷ 0 ∷ [])
    × Bytes Binary false 3 (pos 9) (1 ∷ 0 ∷ [])

-- "stored 0 is Null", else the number that was stored; a text by its number
abbrev pub ReadAgain : Type 0
ReadAgain =
    (unstored Int16 32769 ≡ (1, pos 1)) × (unstored Int16 32767 ≡ (1, negsuc 0)) × (unstored Int16 65535 ≡ (1, pos 32767))
    × (unstored Int32 2147483649 ≡ (1, pos 1)) × (unstored Int32 4294967295 ≡ (1, pos 2147483647))
    × (unstored (Str 8) 0 ≡ (0, pos 0)) × (unstored (Str 8) 1 ≡ (2, pos 1)) × (unstored (Str 8) 16777215 ≡ (2, pos 16777215))

-- ---- E2

-- "Refuse the smallest integer in both integer columns": -32,769 and -32,768 are 17, -32,767 is stored; above, 32,767 and not 32,768
abbrev pub Int16Bounds : Type 0
Int16Bounds = Refused Int16 1 (negsuc 32768) 17 × Refused Int16 1 (negsuc 32767) 17 × Stored Int16 1 (negsuc 32766) 1
    × Stored Int16 1 (pos 32767) 65535 × Refused Int16 1 (pos 32768) 17

-- each column its own smallest: -2,147,483,648 is 17, -2,147,483,647 is stored, and so is -32,768
abbrev pub Int32Bounds : Type 0
Int32Bounds = Refused Int32 1 (negsuc 2147483647) 17 × Stored Int32 1 (negsuc 2147483646) 1 × Stored Int32 1 (negsuc 32767) 2147450880
    × Stored Int32 1 (pos 2147483647) 4294967295 × Refused Int16 1 (negsuc 2147483647) 17

-- "still after 16": a Str, a Binary or an unknown kind with that number
abbrev pub KindFirst : Type 0
KindFirst = Refused Int16 2 (negsuc 32767) 16 × Refused Int16 3 (negsuc 32767) 16 × Refused Int16 4 (negsuc 32767) 16
    × Refused Int32 2 (negsuc 2147483647) 16 × Refused Int32 3 (negsuc 2147483647) 16 × Refused Int32 4 (negsuc 2147483647) 16

-- a Null's number is not looked at
abbrev pub NullNumber : Type 0
NullNumber = Stored Int16 0 (negsuc 32767) 0 × Stored Int32 0 (negsuc 2147483647) 0

-- "reading is unchanged": 0 is Null, and 1 the least number that is read
abbrev pub ReadAsBefore : Type 0
ReadAsBefore =
    (unstored Int16 0 ≡ (0, pos 0)) × (unstored Int16 1 ≡ (1, negsuc 32766))
    × (unstored Int32 0 ≡ (0, pos 0)) × (unstored Int32 1 ≡ (1, negsuc 2147483646))

-- ---- E6

-- "Read 0 as Null and any other as Binary": any other of the two bytes
abbrev pub BinaryRead : Type 0
BinaryRead =
    (unstored Binary 0 ≡ (0, pos 0)) × (unstored Binary 1 ≡ (3, pos 0)) × (unstored Binary 2 ≡ (3, pos 0))
    × (unstored Binary 256 ≡ (3, pos 0)) × (unstored Binary 65535 ≡ (3, pos 0))

-- "write Null as 00 00 and Binary as 01 00", whatever their numbers
abbrev pub BinaryWritten : Type 0
BinaryWritten = ((n : ℤ) → Stored Binary 0 n 0) × ((n : ℤ) → Stored Binary 3 n 1)

-- "16 is no longer given for Null in Binary", but for Int, Str and unknown kinds
abbrev pub BinaryRefused : Type 0
BinaryRefused = ((n : ℤ) → Refused Binary 1 n 16) × ((n : ℤ) → Refused Binary 2 n 16) × ((n : ℤ) → Refused Binary 4 n 16)

-- "a kind (0 Null, 1 Int, 2 Str, 3 Binary)", and 16 for one that "is unknown": 3 is known, 4 and 255 are not, whatever the number
abbrev pub KnownKinds : Type 0
KnownKinds =
    (unknown 3 ≡ false) × (unknown 4 ≡ true) × (unknown 255 ≡ true)
    × ((n : ℤ) → cell_of 3 n ≡ cells.Binary) × ((n : ℤ) → cell_of 4 n ≡ cells.Unknown) × ((n : ℤ) → cell_of 255 n ≡ cells.Unknown)

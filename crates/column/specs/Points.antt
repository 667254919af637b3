-- Points: a column's bits and the value check, at each bound and one past it, each computed from the definition.
use Rattle.std.specs.Prelude.{◌≡◌, Bool, true, false, List, [], ℕ, ℤ, pos, negsuc, length, replicate, None}
use Rattle.common.specs.Answers.{gives, refused, nowhere, column}
use Rattle.cell.specs.declared.value.Value.{Value}
use Rattle.cell.specs.declared.value.Value.TheVariants as value
use Rattle.cell.specs.declared.form.ColumnType.{ColumnType}
use Rattle.cell.specs.declared.form.ColumnType.TheVariants.{Int16, Int32, Str, Binary}
use Rattle.column.specs.declared.column.ColumnBuilder.{ColumnBuilder}
use Rattle.column.specs.Columns.{building, with_localizable, with_nullable, with_primary_key, with_range, finished, bits_column, bitfield_answer}
use Rattle.column.specs.Check.{check_answer}

-- ---- bits

-- a column being made with these marks: localizable, nullable, primary key
abbrev pub marked : Bool → Bool → Bool → ColumnBuilder
marked l u p = record { is_localizable = l; is_nullable = u; is_primary_key = p; value_range = None }

abbrev pub Reads : ℤ → ColumnType → ColumnBuilder → Type 0
Reads bits t marks = bits_column building 0 bits ≡ gives (finished marks t)

-- "bits without 0x1000 equal 0x900 is Binary; 0x800 set is Str of the low byte": 0x900 and 0x1900 are Binary; 0x904, 0x2900, 0xB00 and 0x10900,
-- which have another bit, are Str; "Any signed 32-bit number may come": -1 is Str 255 with all marks
abbrev pub FirstTests : Type 0
FirstTests =
    Reads (pos 0x900) Binary building × Reads (pos 0x1900) Binary (marked false true false)
    × Reads (pos 0x904) (Str 4) building × Reads (pos 0x2900) (Str 0) (marked false false true)
    × Reads (pos 0xB00) (Str 0) (marked true false false) × Reads (pos 0x10900) (Str 0) building
    × Reads (pos 0xD00) (Str 0) building × Reads (pos 0xDFF) (Str 255) building × Reads (negsuc 0) (Str 255) (marked true true true)

-- "size 4 is Int32, or Binary if 0x400 is set; 2 or 1 is Int16"; 0x80000002, a negative number, is Int16
abbrev pub SizeTests : Type 0
SizeTests =
    Reads (pos 0x104) Int32 building × Reads (pos 0x4) Int32 building
    × Reads (pos 0x404) Binary building × Reads (pos 0x1404) Binary (marked false true false)
    × Reads (pos 0x502) Int16 building × Reads (pos 0x501) Int16 building × Reads (negsuc 2147483645) Int16 building

-- "else 13": of the sizes 0, 3 and 5, and of 255
abbrev pub BadSizes : Type 0
BadSizes =
    (bits_column building 0 (pos 0x500) ≡ refused 13 (column 0)) × (bits_column building 0 (pos 0x503) ≡ refused 13 (column 0))
    × (bits_column building 0 (pos 0x505) ≡ refused 13 (column 0)) × (bits_column building 0 (pos 0x5FF) ≡ refused 13 (column 0))

-- "a nullable mark made earlier survives reading bits", and so does the range; the other marks come from the bits
abbrev pub Survives : Type 0
Survives =
    (bits_column (with_nullable (with_range building (pos 1) (pos 2))) 0 (pos 0x502) ≡ gives (finished (with_nullable (with_range building (pos 1) (pos 2))) Int16))
    × (bits_column (with_localizable (with_primary_key building)) 0 (pos 0x502) ≡ gives (finished building Int16))

abbrev pub Writes : ColumnBuilder → ColumnType → ℕ → Type 0
Writes marks t bits = bitfield_answer (finished marks t) ≡ gives (pos bits)

-- "Int16 0x502, Int32 0x104, Str 0xD00 plus maximum, Binary 0x900, plus marks": each mark by itself, and all of them
abbrev pub WrittenBits : Type 0
WrittenBits =
    Writes building Int16 0x502 × Writes building Int32 0x104 × Writes building (Str 0) 0xD00 × Writes building (Str 255) 0xDFF × Writes building Binary 0x900
    × Writes (marked true false false) Int16 0x702 × Writes (marked false true false) Int16 0x1502 × Writes (marked false false true) Int16 0x2502
    × Writes (marked true true true) (Str 255) 0x3FFF

-- "19 Str maximum above 255"
abbrev pub MaximumTooLarge : Type 0
MaximumTooLarge = bitfield_answer (finished building (Str 256)) ≡ refused 19 (column 0)

-- ---- the value check

-- of a value with no text, or with one of so many bytes beside it
abbrev pub Checks : ColumnBuilder → ColumnType → Value → Bool → Type 0
Checks b t v answer = check_answer (finished b t) v [] ≡ gives answer

abbrev pub ChecksText : ColumnType → ℕ → Bool → Type 0
ChecksText t bytes answer = check_answer (finished building t) value.Str (replicate bytes 0x41) ≡ gives answer

-- "Null, if nullable"; document 02, E6: "The value check accepts Null in a nullable Binary column", and in no other Binary column; a range,
-- which judges Int alone, changes nothing
abbrev pub NullChecked : Type 0
NullChecked =
    Checks (with_nullable building) Binary value.Null true × Checks building Binary value.Null false
    × Checks (with_nullable (with_range building (pos 1) (pos 0))) Binary value.Null true
    × Checks (with_nullable building) Int16 value.Null true × Checks building Int16 value.Null false

-- "Int, .. above the smallest integer and at most the largest of its width"; on no other column
abbrev pub IntChecked : Type 0
IntChecked =
    Checks building Int16 (value.Int (negsuc 32767)) false × Checks building Int16 (value.Int (negsuc 32766)) true
    × Checks building Int16 (value.Int (pos 32767)) true × Checks building Int16 (value.Int (pos 32768)) false
    × Checks building Int32 (value.Int (negsuc 2147483647)) false × Checks building Int32 (value.Int (negsuc 2147483646)) true
    × Checks building Int32 (value.Int (pos 2147483647)) true × Checks building Int32 (value.Int (pos 2147483648)) false
    × Checks building (Str 0) (value.Int (pos 1)) false × Checks building Binary (value.Int (pos 1)) false

-- "inside the range if given": from -5 to 10, both ends are inside; the smallest integer is not valid even inside
abbrev pub RangeChecked : Type 0
RangeChecked =
    Checks (with_range building (negsuc 4) (pos 10)) Int16 (value.Int (negsuc 5)) false × Checks (with_range building (negsuc 4) (pos 10)) Int16 (value.Int (negsuc 4)) true
    × Checks (with_range building (negsuc 4) (pos 10)) Int16 (value.Int (pos 10)) true × Checks (with_range building (negsuc 4) (pos 10)) Int16 (value.Int (pos 11)) false
    × Checks (with_range building (negsuc 32767) (pos 0)) Int16 (value.Int (negsuc 32767)) false

-- "text, on Str with maximum 0 or at most that many bytes"
abbrev pub TextChecked : Type 0
TextChecked =
    ChecksText (Str 3) 0 true × ChecksText (Str 3) 3 true × ChecksText (Str 3) 4 false
    × ChecksText (Str 255) 255 true × ChecksText (Str 255) 256 false × ChecksText (Str 0) 256 true
    × ChecksText Int16 0 false × ChecksText Int32 0 false × ChecksText Binary 0 false

-- "Binary, on Binary"
abbrev pub BinaryChecked : Type 0
BinaryChecked =
    Checks building Binary value.Binary true × Checks building Int16 value.Binary false
    × Checks building Int32 value.Binary false × Checks building (Str 0) value.Binary false

-- "22 first": of a text of 268,435,456 bytes, whatever the value, and before 19; one byte less is judged. 19 before the value, whether it would suit or not
abbrev pub CheckOrder : Type 0
CheckOrder =
    ((text : List ℕ) → length text ≡ 268435456 → check_answer (finished building (Str 256)) value.Str text ≡ refused 22 nowhere)
    × ((text : List ℕ) → length text ≡ 268435456 → check_answer (finished building Int16) value.Null text ≡ refused 22 nowhere)
    × ((text : List ℕ) → length text ≡ 268435455 → check_answer (finished building (Str 0)) value.Str text ≡ gives true)
    × (check_answer (finished building (Str 256)) value.Str [] ≡ refused 19 (column 0))
    × (check_answer (finished building (Str 256)) (value.Int (pos 0)) [] ≡ refused 19 (column 0))

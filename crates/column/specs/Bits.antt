-- Document 01, "Columns": the type in a column's bits, and the bits that are written.
use Rattle.std.specs.Prelude.{ℕ, ◌+◌, ◌-◌, ◌/◌, ◌%◌, Bool, ◌||◌, ℤ, pos, negsuc}
use Rattle.common.specs.Choice.{when◌then◌else◌, ◌=?◌}
use Rattle.common.specs.Answers.{Answer, gives, refused, column}
use Rattle.cell.specs.declared.form.ColumnType.{ColumnType}
use Rattle.cell.specs.declared.form.ColumnType.TheVariants.{Int16, Int32, Str, Binary}

-- "Any signed 32-bit number may come": its bits; those of a negative number, -1 - n, are all but those of n
abbrev pub bits_of : ℤ → ℕ
bits_of (pos n) = n
bits_of (negsuc n) = 4294967295 - n

-- the bit of weight m is set
abbrev pub has : ℕ → ℕ → Bool
has m bits = bits / m % 2 =? 1

abbrev pub without : ℕ → ℕ → ℕ
without m bits = when has m bits then bits - m else bits

-- the low byte
abbrev pub size : ℕ → ℕ
size bits = bits % 256

-- "Type from bits, first that fits: bits without 0x1000 equal 0x900 is Binary; 0x800 set is Str of the low byte;
-- size 4 is Int32, or Binary if 0x400 is set; 2 or 1 is Int16; else 13." The bits are those of the column c. The tests after the first:
abbrev pub type_after : ℕ → ℕ → Answer ColumnType
type_after c bits =
    when has 0x800 bits then gives (Str (size bits))
    else when size bits =? 4 then gives (when has 0x400 bits then Binary else Int32)
    else when size bits =? 2 || size bits =? 1 then gives Int16
    else refused 13 (column c)

-- all of them
abbrev pub type_from : ℕ → ℕ → Answer ColumnType
type_from c bits = when without 0x1000 bits =? 0x900 then gives Binary else type_after c bits

-- "Written bits: Int16 0x502, Int32 0x104, Str 0xD00 plus maximum, Binary 0x900"
abbrev pub type_bits_lem : ColumnType → ℕ
type_bits_lem Int16 = 0x502
type_bits_lem Int32 = 0x104
type_bits_lem (Str max) = 0xD00 + max
type_bits_lem Binary = 0x900

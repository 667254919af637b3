-- What is promised of a column's bits.
use Rattle.std.specs.Prelude.{ℕ, ◌+◌, ◌*◌, ◌≤◌, ◌<◌, ◌≡◌, ◌&&◌, ◌||◌, ℤ}
use Rattle.common.specs.Choice.{when◌then◌else◌}
use Rattle.common.specs.Answers.{gives, on_given}
use Rattle.cell.specs.declared.form.ColumnType.{ColumnType}
use Rattle.cell.specs.declared.form.ColumnType.TheVariants.{Str}
use Rattle.cell.specs.Cells.{is_binary_lem}
use Rattle.column.specs.declared.column.Column.{Column}
use Rattle.column.specs.declared.column.ColumnBuilder.{ColumnBuilder}
use Rattle.column.specs.Bits.{bits_of, has, type_after, type_from}
use Rattle.column.specs.Columns.{bits_column, bitfield_answer}

-- "a bit named in none of these tests only makes the first one fail and changes nothing else": bits 14 to 31 are those of 0x4000 and above.
-- With any of them set the type is what the tests after the first make of the other bits, and the marks are those of the other bits
abbrev pub UnnamedBits : Type 0
UnnamedBits = (c bits k : ℕ) → bits < 0x4000 → 1 ≤ k
    → let all = bits + 0x4000 * k in
    (type_from c all ≡ type_after c bits) × (has 0x200 all ≡ has 0x200 bits) × (has 0x1000 all ≡ has 0x1000 bits) × (has 0x2000 all ≡ has 0x2000 bits)

-- the same of the column that a number makes
abbrev pub UnnamedInColumn : Type 0
UnnamedInColumn = (b : ColumnBuilder) (c bits k : ℕ) (n : ℤ) → bits < 0x4000 → 1 ≤ k → bits_of n ≡ bits + 0x4000 * k
    → bits_column b c n
    ≡ on_given (type_after c bits) (λ t. gives (record { coltype = t; is_localizable = has 0x200 bits; is_nullable = b.is_nullable || has 0x1000 bits; is_primary_key = has 0x2000 bits; value_range = b.value_range }))

-- "They read back as the same type and marks, except that a Binary column with 0x200 or 0x2000 reads as Str 0";
-- "a nullable mark made earlier survives reading bits"
abbrev pub type_back : Column → ColumnType
type_back x = when is_binary_lem x.coltype && (x.is_localizable || x.is_primary_key) then Str 0 else x.coltype

abbrev pub BitsReadBack : Type 0
BitsReadBack = (x : Column) (b : ColumnBuilder) (c : ℕ) (n : ℤ) → bitfield_answer x ≡ gives n
    → bits_column b c n ≡ gives (record { coltype = type_back x; is_localizable = x.is_localizable; is_nullable = b.is_nullable || x.is_nullable; is_primary_key = x.is_primary_key; value_range = b.value_range })

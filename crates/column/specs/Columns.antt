-- Document 01, "Columns": a column being made, its marks, and its written bits.
use Rattle.std.specs.Prelude.{ℕ, ◌+◌, true, false, ◌||◌, ℤ, pos, Some, None}
use Rattle.common.specs.Choice.{when◌then◌else◌}
use Rattle.common.specs.Answers.{Answer, gives, on_given}
use Rattle.cell.specs.Forms.{sound_type}
use Rattle.column.specs.Bits.{bits_of, has, type_from, type_bits_lem}
use Rattle.cell.specs.declared.form.ColumnType.{ColumnType}
use Rattle.column.specs.declared.column.Column.{Column}
use Rattle.column.specs.declared.column.ColumnBuilder.{ColumnBuilder}

-- "The nullable, localizable and primary key marks are set one after another on a column being made": at first there is none
abbrev pub building : ColumnBuilder
building = record { is_localizable = false; is_nullable = false; is_primary_key = false; value_range = None }

abbrev pub with_localizable : ColumnBuilder → ColumnBuilder
with_localizable b = record { is_localizable = true; is_nullable = b.is_nullable; is_primary_key = b.is_primary_key; value_range = b.value_range }

abbrev pub with_nullable : ColumnBuilder → ColumnBuilder
with_nullable b = record { is_localizable = b.is_localizable; is_nullable = true; is_primary_key = b.is_primary_key; value_range = b.value_range }

abbrev pub with_primary_key : ColumnBuilder → ColumnBuilder
with_primary_key b = record { is_localizable = b.is_localizable; is_nullable = b.is_nullable; is_primary_key = true; value_range = b.value_range }

abbrev pub with_range : ColumnBuilder → ℤ → ℤ → ColumnBuilder
with_range b min max = record { is_localizable = b.is_localizable; is_nullable = b.is_nullable; is_primary_key = b.is_primary_key; value_range = Some (record { min = min; max = max }) }

-- the column of a type, with the marks and the range made
abbrev pub finished : ColumnBuilder → ColumnType → Column
finished b t = record { coltype = t; is_localizable = b.is_localizable; is_nullable = b.is_nullable; is_primary_key = b.is_primary_key; value_range = b.value_range }

-- "Marks: 0x200 localizable, 0x1000 nullable, 0x2000 primary key"; "a nullable mark made earlier survives reading bits"; so does the range
abbrev pub bits_column : ColumnBuilder → ℕ → ℤ → Answer Column
bits_column b c n = on_given (type_from c (bits_of n)) (λ t. gives (record { coltype = t; is_localizable = has 0x200 (bits_of n); is_nullable = b.is_nullable || has 0x1000 (bits_of n); is_primary_key = has 0x2000 (bits_of n); value_range = b.value_range }))

abbrev pub but_nullable_lem : Column → Column
but_nullable_lem x = record { coltype = x.coltype; is_localizable = x.is_localizable; is_nullable = true; is_primary_key = x.is_primary_key; value_range = x.value_range }

-- "Written bits: [the type's], plus marks"
abbrev pub marks : Column → ℕ
marks x = (when x.is_localizable then 0x200 else 0) + (when x.is_nullable then 0x1000 else 0) + (when x.is_primary_key then 0x2000 else 0)

-- `bitfield`: 19, else the bits; a column by itself has the place 0
abbrev pub bitfield_answer : Column → Answer ℤ
bitfield_answer x = on_given (sound_type 0 x.coltype) (λ t. gives (pos (type_bits_lem t + marks x)))

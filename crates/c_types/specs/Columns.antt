-- A column as C has it, and the answers that hold one.
use Rattle.std.specs.Prelude.{ℕ, ◌+◌, Bool, true, false, pos, Option, Some, None, Result}
use Rattle.common.specs.Choice.{when◌then◌else◌, ◌=?◌}
use Rattle.common.specs.Sizes.{max_string}
use Rattle.common.specs.Answers.{Answer}
use Rattle.cell.specs.Handed.{unknown}
use Rattle.column.specs.Columns.{building, finished}
use Rattle.cell.specs.declared.form.ColumnType.{ColumnType}
use Rattle.cell.specs.declared.form.ColumnType.TheVariants as types
use Rattle.column.specs.declared.column.ValueRange.{ValueRange}
use Rattle.column.specs.declared.column.Column.{Column}
use Rattle.column.specs.declared.column.ColumnBuilder.{ColumnBuilder}
use Rattle.c_types.specs.Answers.{told_lem, refusal_told, given_told}
use Rattle.c_types.specs.Unknown.{on_types}
use Rattle.c_types.specs.declared.answers.Refused.{Refused}
use Rattle.c_types.specs.declared.answers.ColumnParts.{ColumnParts}
use Rattle.c_types.specs.declared.answers.ColumnAnswer.{ColumnAnswer}

-- An unknown type is taken to a Str beyond its maximum: every call refuses that as a bad column, in 01's order, with 19. So `on_column`
-- has only the number to say anew.
abbrev pub coltype_in : ColumnParts → ColumnType
coltype_in p =
    when unknown p.coltype then types.Str (max_string + 1)
    else when p.coltype =? 0 then types.Int16
    else when p.coltype =? 1 then types.Int32
    else when p.coltype =? 2 then types.Str p.max_len
    else types.Binary

abbrev pub range_in_lem : ColumnParts → Option ValueRange
range_in_lem p = when p.has_range then Some (record { min = p.min; max = p.max }) else None

abbrev pub builder_in_lem : ColumnParts → ColumnBuilder
builder_in_lem p = record { is_localizable = p.is_localizable; is_nullable = p.is_nullable; is_primary_key = p.is_primary_key; value_range = range_in_lem p }

abbrev pub column_from : ColumnParts → Column
column_from p = finished (builder_in_lem p) (coltype_in p)

-- what a call on this column answers: 16 where its type is unknown, as 19 for a Str beyond its maximum
abbrev pub on_column : {A : Type 0} → ColumnParts → Answer A → Answer A
on_column p a = on_types (λ c. p.coltype) a

abbrev pub type_number_lem : ColumnType → ℕ
type_number_lem types.Int16 = 0
type_number_lem types.Int32 = 1
type_number_lem (types.Str max) = 2
type_number_lem types.Binary = 3

abbrev pub type_maximum_lem : ColumnType → ℕ
type_maximum_lem types.Int16 = 0
type_maximum_lem types.Int32 = 0
type_maximum_lem (types.Str max) = max
type_maximum_lem types.Binary = 0

-- whether a range is given, and its ends, 0 where none is
abbrev pub has_range_lem : Option ValueRange → Bool
has_range_lem (Some r) = true
has_range_lem None = false

abbrev pub range_of : Option ValueRange → ValueRange
range_of (Some r) = r
range_of None = record { min = pos 0; max = pos 0 }

abbrev pub parts_of : Column → ColumnParts
parts_of x = record { coltype = type_number_lem x.coltype; max_len = type_maximum_lem x.coltype; is_localizable = x.is_localizable; is_nullable = x.is_nullable; is_primary_key = x.is_primary_key; has_range = has_range_lem x.value_range; min = (range_of x.value_range).min; max = (range_of x.value_range).max }

-- a column being made: its type is no part of it
abbrev pub builder_out_lem : ColumnBuilder → ColumnParts
builder_out_lem b = parts_of (finished b types.Int16)

abbrev pub column_told : Result Column Refused → ColumnAnswer
column_told a = record { refused = refusal_told a; column = parts_of (given_told (finished building types.Int16) a) }

abbrev pub column_in_lem : Answer Column → ColumnAnswer
column_in_lem a = column_told (told_lem a)

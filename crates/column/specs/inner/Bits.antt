-- The steps of reading and writing a column's bits.
use Rattle.std.specs.Prelude.{◌≤◌, Bool, false, Option, Some, None}
use Rattle.common.specs.Choice.{◌<?◌}
use Rattle.common.specs.Sizes.{max_string}
use Rattle.common.specs.Answers.{Answer, gives, refused, column}
use Rattle.cell.specs.declared.form.ColumnType.{ColumnType}
use Rattle.cell.specs.declared.form.ColumnType.TheVariants.{Int16, Int32, Str, Binary}

abbrev pub read_as : Option ColumnType → Answer ColumnType
read_as (Some t) = gives t
read_as None = refused 13 (column 0)

abbrev pub too_long_lem : ColumnType → Bool
too_long_lem Int16 = false
too_long_lem Int32 = false
too_long_lem (Str max) = max_string <? max
too_long_lem Binary = false

abbrev pub MaximumFits : ColumnType → Type 0
MaximumFits Int16 = Unit {0}
MaximumFits Int32 = Unit {0}
MaximumFits (Str max) = max ≤ max_string
MaximumFits Binary = Unit {0}

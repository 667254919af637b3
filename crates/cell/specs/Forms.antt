-- How the cells of a column are stored: by its type and the width of references, without maximum and marks.
use Rattle.std.specs.Prelude.{ℕ, Bool, true, false}
use Rattle.common.specs.Choice.{when◌then◌else◌, ◌<?◌}
use Rattle.common.specs.Sizes.{max_string}
use Rattle.common.specs.Answers.{Answer, gives, refused, column, on_given}
use Rattle.cell.specs.declared.form.ColumnType.{ColumnType}
use Rattle.cell.specs.declared.form.ColumnType.TheVariants as type
use Rattle.cell.specs.declared.form.CellForm.{CellForm}
use Rattle.cell.specs.declared.form.CellForm.TheVariants as form

-- "Str holds the number in two or three bytes": the form of a type where references are short, or long
abbrev pub form_for : ColumnType → Bool → CellForm
form_for type.Int16 long = form.Int16
form_for type.Int32 long = form.Int32
form_for (type.Str max) long = when long then form.LongRef else form.ShortRef
form_for type.Binary long = form.Binary

-- and a type and a width of references that have the form
abbrev pub type_in : CellForm → ColumnType
type_in form.Int16 = type.Int16
type_in form.Int32 = type.Int32
type_in form.ShortRef = type.Str 0
type_in form.LongRef = type.Str 0
type_in form.Binary = type.Binary

abbrev pub long_in : CellForm → Bool
long_in form.Int16 = false
long_in form.Int32 = false
long_in form.ShortRef = false
long_in form.LongRef = true
long_in form.Binary = false

-- "Str maximum above 255": 19, at the column c
abbrev pub sound_type : ℕ → ColumnType → Answer ColumnType
sound_type c type.Int16 = gives type.Int16
sound_type c type.Int32 = gives type.Int32
sound_type c (type.Str max) = when max_string <? max then refused 19 (column c) else gives (type.Str max)
sound_type c type.Binary = gives type.Binary

-- else the form of a column of this type
abbrev pub form_answer : ℕ → ColumnType → Bool → Answer CellForm
form_answer c t long = on_given (sound_type c t) (λ u. gives (form_for u long))

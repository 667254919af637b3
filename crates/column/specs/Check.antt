-- Document 01, "Value check": a value, with its text beside it.
use Rattle.std.specs.Prelude.{ℕ, Bool, true, false, not, ◌&&◌, ◌||◌, Option, Some, None, List, length, ℤ, pos, negsuc}
use Rattle.common.specs.Choice.{when◌then◌else◌, ◌<?◌, ◌≤?◌, ◌=?◌, ◌<ℤ?◌}
use Rattle.common.specs.Sizes.{max_bytes}
use Rattle.common.specs.Answers.{Answer, gives, refused, nowhere, on_given}
use Rattle.cell.specs.declared.value.Value.{Value}
use Rattle.cell.specs.declared.value.Value.TheVariants as value
use Rattle.cell.specs.Cells.{is_binary_lem}
use Rattle.cell.specs.Forms.{sound_type}
use Rattle.cell.specs.declared.form.ColumnType.{ColumnType}
use Rattle.cell.specs.declared.form.ColumnType.TheVariants.{Int16, Int32, Str, Binary}
use Rattle.column.specs.declared.column.Column.{Column}
use Rattle.column.specs.declared.column.ValueRange.{ValueRange}

-- "inside the range if given"
abbrev pub inside : Option ValueRange → ℤ → Bool
inside None n = true
inside (Some r) n = not (n <ℤ? r.min || r.max <ℤ? n)

-- above the one, at most the other
abbrev pub above_up_to : ℤ → ℤ → ℤ → Bool
above_up_to low high n = low <ℤ? n && not (high <ℤ? n)

-- "above the smallest integer and at most the largest of its width": -32,768 and 32,767, -2,147,483,648 and 2,147,483,647
abbrev pub integer_fits : ColumnType → ℤ → Bool
integer_fits Int16 n = above_up_to (negsuc 32767) (pos 32767) n
integer_fits Int32 n = above_up_to (negsuc 2147483647) (pos 2147483647) n
integer_fits (Str max) n = false
integer_fits Binary n = false

-- "text, on Str with maximum 0 or at most that many bytes"
abbrev pub text_suits : ColumnType → ℕ → Bool
text_suits Int16 bytes = false
text_suits Int32 bytes = false
text_suits (Str max) bytes = max =? 0 || bytes ≤? max
text_suits Binary bytes = false

-- "Null, if nullable" (document 02, E6: in a Binary column too); "Int, [as above]; text, [as above]; Binary, on Binary"
abbrev pub suits : Column → Value → ℕ → Bool
suits x value.Null bytes = x.is_nullable
suits x (value.Int n) bytes = inside x.value_range n && integer_fits x.coltype n
suits x value.Str bytes = text_suits x.coltype bytes
suits x value.Binary bytes = is_binary_lem x.coltype

-- `is_valid_value`: 22 for the text, then 19, else whether the value suits
abbrev pub check_answer : Column → Value → List ℕ → Answer Bool
check_answer x v text =
    when max_bytes <? length text then refused 22 nowhere
    else on_given (sound_type 0 x.coltype) (λ t. gives (suits x v (length text)))

-- Document 01, "Cells": what a column stores for a cell, and what a stored number reads as, over the column's type and width.
use Rattle.std.specs.Prelude.{ℕ, Bool, true, false, not, ◌&&◌, ℤ, pos, nat_abs, ◌+ℤ◌, ◌-ℤ◌}
use Rattle.common.specs.Choice.{when◌then◌else◌, ◌≤?◌, ◌=?◌, ◌<ℤ?◌}
use Rattle.common.specs.Answers.{Place, Answer, gives, refused, on_given}
use Rattle.common.specs.Refs.{reference}
use Rattle.cell.specs.declared.form.ColumnType.{ColumnType}
use Rattle.cell.specs.declared.form.ColumnType.TheVariants.{Int16, Int32, Str, Binary}

abbrev pub is_binary_lem : ColumnType → Bool
is_binary_lem Int16 = false
is_binary_lem Int32 = false
is_binary_lem (Str max) = false
is_binary_lem Binary = true

-- Int16 has two bytes, Int32 four, Str two, or three where references are long, Binary two
abbrev pub width : ColumnType → Bool → ℕ
width Int16 long = 2
width Int32 long = 4
width (Str max) long = when long then 3 else 2
width Binary long = 2

-- "Int16 holds n + 32,768 in two bytes, Int32 n + 2,147,483,648 in four"; 17 for an integer that is half the width's numbers or more
-- away from 0: outside the width, or (document 02, E2) its smallest
abbrev pub integer : ℕ → Place → ℤ → Answer ℕ
integer half at n = when half ≤? nat_abs n then refused 17 at else gives (nat_abs (n +ℤ pos half))

-- "Str holds the number in two or three bytes": 8, then "reference above 65,535 in a short table": 18
abbrev pub reference_number : Bool → Place → ℤ → Answer ℕ
reference_number long at n = on_given (reference at n) (λ r. when not long && pos 65535 <ℤ? r then refused 18 at else gives (nat_abs r))

-- "a cell of any other kind is refused with 16 before its number is looked at; then 17, or 8 and 18"; "0 for Null";
-- document 02, E6: "write Null as 00 00 and Binary as 01 00"
abbrev pub stored : ColumnType → Bool → Place → ℕ → ℤ → Answer ℕ
stored Int16 long at kind n = when kind =? 0 then gives 0 else when kind =? 1 then integer 32768 at n else refused 16 at
stored Int32 long at kind n = when kind =? 0 then gives 0 else when kind =? 1 then integer 2147483648 at n else refused 16 at
stored (Str max) long at kind n = when kind =? 0 then gives 0 else when kind =? 2 then reference_number long at n else refused 16 at
stored Binary long at kind n = when kind =? 0 then gives 0 else when kind =? 3 then gives 1 else refused 16 at

-- "stored 0 is Null"
abbrev pub integer_cell : ℕ → ℕ → ℕ × ℤ
integer_cell half n = when n =? 0 then (0, pos 0) else (1, pos n -ℤ pos half)

abbrev pub reference_cell : ℕ → ℕ × ℤ
reference_cell n = when n =? 0 then (0, pos 0) else (2, pos n)

-- E6: "Read 0 as Null and any other as Binary"
abbrev pub binary_cell : ℕ → ℕ × ℤ
binary_cell n = when n =? 0 then (0, pos 0) else (3, pos 0)

-- the kind and the number of a stored number
abbrev pub unstored : ColumnType → ℕ → ℕ × ℤ
unstored Int16 n = integer_cell 32768 n
unstored Int32 n = integer_cell 2147483648 n
unstored (Str max) n = reference_cell n
unstored Binary n = binary_cell n

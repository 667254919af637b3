-- Document 01, "Rows": a cell is "a kind (0 Null, 1 Int, 2 Str, 3 Binary) and a signed 32-bit number, 0 for Null and Binary on reading".
use Rattle.std.specs.Prelude.{ℕ, ℤ, pos}
use Rattle.cell.specs.declared.value.ValueRef.{ValueRef}
use Rattle.cell.specs.declared.value.ValueRef.TheVariants.{Null, Int, Str, Binary}
use Rattle.cell.specs.declared.value.Value.{Value}
use Rattle.cell.specs.declared.value.Value.TheVariants as plain

abbrev pub ref_kind : ValueRef → ℕ
ref_kind Null = 0
ref_kind (Int n) = 1
ref_kind (Str s) = 2
ref_kind Binary = 3

abbrev pub ref_number : ValueRef → ℤ
ref_number Null = pos 0
ref_number (Int n) = n
ref_number (Str s) = s.0
ref_number Binary = pos 0

-- both
abbrev pub cell_as : ValueRef → ℕ × ℤ
cell_as v = (ref_kind v, ref_number v)

-- the same of a value whose text stands beside it: a text has no number
abbrev pub value_kind : Value → ℕ
value_kind plain.Null = 0
value_kind (plain.Int n) = 1
value_kind plain.Str = 2
value_kind plain.Binary = 3

abbrev pub value_number : Value → ℤ
value_number plain.Null = pos 0
value_number (plain.Int n) = n
value_number plain.Str = pos 0
value_number plain.Binary = pos 0

-- Document 01, "Rows": a cell is handed over as "a kind (0 Null, 1 Int, 2 Str, 3 Binary) and a signed 32-bit number",
-- and the number is "ignored on writing" for Null and Binary.
use Rattle.std.specs.Prelude.{ℕ, ℤ, pos, Bool}
use Rattle.common.specs.Choice.{when◌then◌else◌, ◌<?◌, ◌=?◌}
use Rattle.cell.specs.declared.value.Cell.{Cell}
use Rattle.cell.specs.declared.value.Cell.TheVariants.{Null, Int, Str, Binary, Unknown}

-- "16: kind of cell does not suit the column, or is unknown": of the numbers that a kind is handed over as, 0 to 3 are known
abbrev pub unknown : ℕ → Bool
unknown kind = 3 <? kind

abbrev pub cell_of : ℕ → ℤ → Cell
cell_of kind n =
    when unknown kind then Unknown
    else when kind =? 0 then Null
    else when kind =? 1 then Int n
    else when kind =? 2 then Str n
    else Binary

-- the kind and the number again, 4 for a kind that is unknown, 0 for a number that is ignored
abbrev pub handed_kind : Cell → ℕ
handed_kind Null = 0
handed_kind (Int n) = 1
handed_kind (Str n) = 2
handed_kind Binary = 3
handed_kind Unknown = 4

abbrev pub handed_number : Cell → ℤ
handed_number Null = pos 0
handed_number (Int n) = n
handed_number (Str n) = n
handed_number Binary = pos 0
handed_number Unknown = pos 0

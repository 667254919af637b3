-- What is promised of a cell: what was written reads back.
use Rattle.std.specs.Prelude.{ℕ, ◌≡◌, Bool, ℤ, pos}
use Rattle.common.specs.Choice.{when◌then◌else◌, ◌=?◌}
use Rattle.common.specs.Answers.{Place, gives}
use Rattle.cell.specs.declared.form.ColumnType.{ColumnType}
use Rattle.cell.specs.Cells.{stored, unstored}

-- what a cell reads as that was written: itself, a Null's and a Binary's number as 0
abbrev pub reads_as : ℕ → ℤ → ℕ × ℤ
reads_as kind n = when kind =? 0 then (0, pos 0) else when kind =? 3 then (3, pos 0) else (kind, n)

-- document 02, E2: "every accepted cell outside Binary columns reads back as handed in, a Null's number as 0"; a Binary cell's number as 0 too
abbrev pub CellReadBack : Type 0
CellReadBack = (t : ColumnType) (long : Bool) (at : Place) (kind : ℕ) (n : ℤ) (m : ℕ) → stored t long at kind n ≡ gives m → unstored t m ≡ reads_as kind n

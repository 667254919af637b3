-- Points: what the calls on a table answer at the bounds of document 01's rules and one past them, and which refusal comes first where an input
-- has both faults, each computed from the definition.
use Rattle.std.specs.Prelude.{◌≡◌, Bool, false, List, [], ◌∷◌, map, ℕ, ℤ, pos, negsuc, length, replicate}
use Rattle.common.specs.Answers.{Place, Answer, gives, refused, nowhere, column, cell, refusal_of}
use Rattle.common.specs.Lists.{◌over◌}
use Rattle.cell.specs.declared.form.ColumnType.{ColumnType}
use Rattle.cell.specs.declared.form.ColumnType.TheVariants.{Int16, Str}
use Rattle.column.specs.Columns.{building, finished}
use Rattle.widths.specs.Places.{cell_start}
use Rattle.table.specs.declared.layout.Table.{Table}
use Rattle.table.specs.Layout.{unused, no_table_lem, layout_or_none, bitfields_outcome, columns_outcome, types_of}
use Rattle.table.specs.Reading.{num_rows_answer, read_cell_answer, read_rows_outcome}
use Rattle.table.specs.Writing.{write_rows_outcome}

-- ---- the layouts that are asked

-- columns of these types, with short references; not judged
abbrev pub laid : List ColumnType → Table
laid ts = record { columns = map (finished building) ts over unused; count = length ts; long_string_refs = false }

abbrev pub one : Table
one = laid (Int16 ∷ [])

abbrev pub two : Table
two = laid (Int16 ∷ Int16 ∷ [])

-- of case m: Int16 and Str 8
abbrev pub of_m : Table
of_m = laid (Int16 ∷ Str 8 ∷ [])

-- a bad column behind a good one
abbrev pub bad : Table
bad = laid (Int16 ∷ Str 256 ∷ Str 300 ∷ [])

-- 65 columns in use, all of them bad
abbrev pub wide : Table
wide = record { columns = replicate 64 (finished building (Str 256)); count = 65; long_string_refs = false }

-- a call of `write_rows`
abbrev pub written : Table → ℕ → List ℕ → List ℤ → List ℕ → Answer ℕ × List ℕ
written t rows kinds numbers out = write_rows_outcome t rows (record { kinds = kinds; numbers = numbers }) out

-- ---- columns

-- a layout that was refused, and the one of no columns that stands beside the refusal
abbrev pub NoLayout : Answer Table → Bool → ℕ → Place → Type 0
NoLayout answer long n at = (answer ≡ refused n at) × (layout_or_none long answer ≡ no_table_lem long)

-- "20 over 64 columns": 64 are made, 65 are 20
abbrev pub ColumnBounds : Type 0
ColumnBounds =
    ((long : Bool) → refusal_of (bitfields_outcome (replicate 64 (pos 0x502)) long) ≡ gives tt)
    × ((long : Bool) → NoLayout (bitfields_outcome (replicate 65 (pos 0x502)) long) long 20 nowhere)
    × ((long : Bool) → refusal_of (columns_outcome unused 64 long) ≡ gives tt)
    × ((long : Bool) → NoLayout (columns_outcome unused 65 long) long 20 nowhere)

-- "Table: 20, 13 or 19 ..": 65 bad columns are 20
abbrev pub CountBeforeColumns : Type 0
CountBeforeColumns =
    ((long : Bool) → NoLayout (bitfields_outcome (replicate 65 (pos 0x503)) long) long 20 nowhere)
    × ((long : Bool) → NoLayout (columns_outcome wide.columns 65 long) long 20 nowhere)

-- "13 or 19 at the first bad column": of two bad ones the first, wherever it stands
abbrev pub FirstBadColumn : Type 0
FirstBadColumn =
    ((long : Bool) → NoLayout (bitfields_outcome (pos 0x502 ∷ pos 0x503 ∷ pos 0x505 ∷ []) long) long 13 (column 1))
    × ((long : Bool) → NoLayout (columns_outcome bad.columns 3 long) long 19 (column 1))
    × ((long : Bool) → refusal_of (columns_outcome bad.columns 1 long) ≡ gives tt)

-- ---- the order of a call

-- "22 first": a stream of 268,435,456 bytes beside 65 columns is 22; one byte less, and it is 20
abbrev pub SizeBeforeCount : Type 0
SizeBeforeCount =
    ((s : List ℕ) → length s ≡ 268435456 → num_rows_answer wide s ≡ refused 22 nowhere)
    × ((s : List ℕ) → length s ≡ 268435455 → num_rows_answer wide s ≡ refused 20 nowhere)

-- "13 or 19 at the first bad column, 14": 65,537 rows of a bad table are 19, read or handed over
abbrev pub ColumnsBeforeRows : Type 0
ColumnsBeforeRows =
    ((s : List ℕ) → length s ≡ 393222 → num_rows_answer bad s ≡ refused 19 (column 1))
    × ((out : List ℕ) → written bad 65537 [] [] out ≡ (refused 19 (column 1), out))

-- "14 over 65,536 rows": 65,536 are read and a byte more is ignored, 65,537 are 14; with no columns 65,536 rows are written, 65,537 are 14
abbrev pub RowBounds : Type 0
RowBounds =
    ((s : List ℕ) → length s ≡ 131073 → num_rows_answer one s ≡ gives 65536) × ((s : List ℕ) → length s ≡ 131074 → num_rows_answer one s ≡ refused 14 nowhere)
    × (written (laid []) 65536 [] [] (238 ∷ []) ≡ (gives 0, 238 ∷ [])) × ((out : List ℕ) → written (laid []) 65537 [] [] out ≡ (refused 14 nowhere, out))

-- "14, then 15 or 23": a place outside 65,537 rows, and no cells for as many
abbrev pub RowsBeforePlaces : Type 0
RowsBeforePlaces =
    ((s : List ℕ) → length s ≡ 131074 → read_cell_answer one s 65537 1 ≡ refused 14 nowhere)
    × ((out : List ℕ) → written one 65537 [] [] out ≡ (refused 14 nowhere, out)) × ((out : List ℕ) → written one 65536 [] [] out ≡ (refused 23 nowhere, out))

-- "23 kinds or numbers handed over not rows times columns": one kind or number too few, or too many, for one row of two columns
abbrev pub CellCounts : Type 0
CellCounts =
    ((out : List ℕ) → written two 1 (0 ∷ []) (pos 0 ∷ pos 0 ∷ []) out ≡ (refused 23 nowhere, out))
    × ((out : List ℕ) → written two 1 (0 ∷ 0 ∷ 0 ∷ []) (pos 0 ∷ pos 0 ∷ []) out ≡ (refused 23 nowhere, out))
    × ((out : List ℕ) → written two 1 (0 ∷ 0 ∷ []) (pos 0 ∷ []) out ≡ (refused 23 nowhere, out))
    × ((out : List ℕ) → written two 1 (0 ∷ 0 ∷ []) (pos 0 ∷ pos 0 ∷ pos 0 ∷ []) out ≡ (refused 23 nowhere, out))

-- "23, then cells": a Str in an Int16 column, and one number too few
abbrev pub CountsBeforeCells : Type 0
CountsBeforeCells = (out : List ℕ) → written one 1 (2 ∷ []) [] out ≡ (refused 23 nowhere, out)

-- "then cells, then 7": a Str in an Int16 column, and no output; a good cell, and no output
abbrev pub CellsBeforeRoom : Type 0
CellsBeforeRoom = (written one 1 (2 ∷ []) (pos 1 ∷ []) [] ≡ (refused 16 (cell 0 0), [])) × (written one 1 (1 ∷ []) (pos 1 ∷ []) [] ≡ (refused 7 nowhere, []))

-- "Cells are judged in column order, then row": bad cells at (0, 1) and (5, 0), and at (1, 0) and (5, 0)
abbrev pub ColumnByColumn : Type 0
ColumnByColumn =
    ((out : List ℕ) → written two 6 (1 ∷ 2 ∷ 1 ∷ 1 ∷ 1 ∷ 1 ∷ 1 ∷ 1 ∷ 1 ∷ 1 ∷ 2 ∷ 1 ∷ []) (replicate 12 (pos 0)) out ≡ (refused 16 (cell 5 0), out))
    × ((out : List ℕ) → written two 6 (1 ∷ 1 ∷ 2 ∷ 1 ∷ 1 ∷ 1 ∷ 1 ∷ 1 ∷ 1 ∷ 1 ∷ 2 ∷ 1 ∷ []) (replicate 12 (pos 0)) out ≡ (refused 16 (cell 1 0), out))

-- ---- 7

-- "7 output too small for the whole result": case m to 7 bytes, to 8, and to 9, of which the last is untouched
abbrev pub WriteRoom : Type 0
WriteRoom =
    let m : List ℕ → Answer ℕ × List ℕ = written of_m 2 (1 ∷ 2 ∷ 1 ∷ 0 ∷ []) (pos 1 ∷ pos 3 ∷ negsuc 0 ∷ pos 0 ∷ []) in
    (m (replicate 7 238) ≡ (refused 7 nowhere, replicate 7 238)) × (m (replicate 8 238) ≡ (gives 8, 1 ∷ 128 ∷ 255 ∷ 127 ∷ 3 ∷ 0 ∷ 0 ∷ 0 ∷ []))
    × (m (replicate 9 238) ≡ (gives 8, 1 ∷ 128 ∷ 255 ∷ 127 ∷ 3 ∷ 0 ∷ 0 ∷ 0 ∷ 238 ∷ []))

-- the bytes of case m, and some more
abbrev pub bytes_of_m : List ℕ → List ℕ
bytes_of_m more = 1 ∷ 128 ∷ 255 ∷ 127 ∷ 3 ∷ 0 ∷ 0 ∷ 0 ∷ more

-- read into as many kinds and numbers: 7 where only the numbers are too few, and where only the kinds are
abbrev pub ReadRoom : Type 0
ReadRoom =
    (read_rows_outcome of_m (bytes_of_m []) (replicate 4 9) (replicate 3 (pos 9)) ≡ (refused 7 nowhere, (replicate 4 9, replicate 3 (pos 9))))
    × (read_rows_outcome of_m (bytes_of_m []) (replicate 3 9) (replicate 4 (pos 9)) ≡ (refused 7 nowhere, (replicate 3 9, replicate 4 (pos 9))))
    × (read_rows_outcome of_m (bytes_of_m []) (replicate 4 9) (replicate 5 (pos 9)) ≡ (gives 4, (1 ∷ 2 ∷ 1 ∷ 0 ∷ [], pos 1 ∷ pos 3 ∷ negsuc 0 ∷ pos 0 ∷ pos 9 ∷ [])))

-- ---- rows and places

-- "15 row or column outside the table": the last cell of case m, the row after it, the column after it
abbrev pub PlaceBounds : Type 0
PlaceBounds =
    (read_cell_answer of_m (bytes_of_m []) 1 1 ≡ gives (0, pos 0)) × (read_cell_answer of_m (bytes_of_m []) 2 0 ≡ refused 15 nowhere)
    × (read_cell_answer of_m (bytes_of_m []) 0 2 ≡ refused 15 nowhere)

-- "rows are stream length divided by it, rounded down, 0 with no columns"
abbrev pub NoColumns : Type 0
NoColumns = ((s : List ℕ) → length s ≡ 5 → num_rows_answer (laid []) s ≡ gives 0) × ((s : List ℕ) → length s ≡ 5 → read_cell_answer (laid []) s 0 0 ≡ refused 15 nowhere)

-- "m with 11 bytes keeps two rows, 12 makes three and moves cells": a column is found from the complete rows, not from the stream length
abbrev pub StrayBytes : Type 0
StrayBytes =
    let eleven : List ℕ = bytes_of_m (170 ∷ 187 ∷ 204 ∷ []) in
    let twelve : List ℕ = bytes_of_m (170 ∷ 187 ∷ 204 ∷ 221 ∷ []) in
    (num_rows_answer of_m eleven ≡ gives 2) × (cell_start (types_of of_m) false 2 0 1 ≡ 4) × (read_cell_answer of_m eleven 0 1 ≡ gives (2, pos 3))
    × (read_cell_answer of_m eleven 1 1 ≡ gives (0, pos 0)) × (num_rows_answer of_m twelve ≡ gives 3) × (cell_start (types_of of_m) false 3 0 1 ≡ 6)
    × (read_cell_answer of_m twelve 0 1 ≡ gives (0, pos 0)) × (read_cell_answer of_m twelve 1 1 ≡ gives (2, pos 48042))

-- a bulk read comes to 14, 22 and 19 before 7, beside outputs of no places; 65,536 rows are 7 there
abbrev pub ReadBefore7 : Type 0
ReadBefore7 =
    ((s : List ℕ) → length s ≡ 131074 → read_rows_outcome one s [] [] ≡ (refused 14 nowhere, ([], [])))
    × ((s : List ℕ) → length s ≡ 131072 → read_rows_outcome one s [] [] ≡ (refused 7 nowhere, ([], [])))
    × ((s : List ℕ) → length s ≡ 268435456 → read_rows_outcome wide s [] [] ≡ (refused 22 nowhere, ([], [])))
    × ((s : List ℕ) → length s ≡ 6 → read_rows_outcome bad s [] [] ≡ (refused 19 (column 1), ([], [])))

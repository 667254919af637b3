-- Points: what is written where two rules meet, and where a promise ends, each computed from the definition.
use Rattle.std.specs.Prelude.{◌≡◌, false, List, [], ◌∷◌, ℕ, ℤ, pos, negsuc, replicate}
use Rattle.common.specs.Answers.{Answer, Place, gives, refused, nowhere, cell}
use Rattle.table.specs.declared.layout.Table.{Table}
use Rattle.table.specs.Layout.{bitfields_outcome, layout_or_none}
use Rattle.table.specs.Reading.{read_rows_outcome}
use Rattle.table.specs.Writing.{write_rows_outcome}

-- two Int16 columns, and an Int16 and an Int32 column
abbrev pub twice : Table
twice = layout_or_none false (bitfields_outcome (pos 0x502 ∷ pos 0x502 ∷ []) false)

abbrev pub both : Table
both = layout_or_none false (bitfields_outcome (pos 0x502 ∷ pos 0x104 ∷ []) false)

-- whatever the output, these cells of two rows are refused so, and it stays as it was
abbrev pub Refused : Table → List ℕ → List ℤ → ℕ → Place → Type 0
Refused t kinds numbers refusal at = (out : List ℕ) → write_rows_outcome t 2 (record { kinds = kinds; numbers = numbers }) out ≡ (refused refusal at, out)

-- "Int outside the column's width": 40,000 and 32,768 in an Int16 column are 17 at their cell, and 32,767 is written as FF FF
abbrev pub LargestWritten : Type 0
LargestWritten =
    Refused twice (1 ∷ 1 ∷ 1 ∷ 1 ∷ []) (pos 0 ∷ pos 40000 ∷ pos 0 ∷ pos 0 ∷ []) 17 (cell 0 1)
    × Refused twice (1 ∷ 1 ∷ 1 ∷ 1 ∷ []) (pos 0 ∷ pos 32768 ∷ pos 0 ∷ pos 0 ∷ []) 17 (cell 0 1)
    × (write_rows_outcome twice 2 (record { kinds = 1 ∷ 1 ∷ 1 ∷ 1 ∷ []; numbers = pos 0 ∷ pos 32767 ∷ pos 0 ∷ pos 0 ∷ [] }) (replicate 9 0xEE)
    ≡ (gives 8, 0 ∷ 128 ∷ 0 ∷ 128 ∷ 255 ∷ 255 ∷ 0 ∷ 128 ∷ 0xEE ∷ []))

-- document 02, E2, and 01's order of cells: the smallest at row 0, column 1 and a Str at row 1, column 0: 16 there; the smallest in both: 17 at
-- the first column; the smallest in the last cell alone: 17 after all others were judged
abbrev pub SmallestInOrder : Type 0
SmallestInOrder =
    Refused twice (1 ∷ 1 ∷ 2 ∷ 1 ∷ []) (pos 0 ∷ negsuc 32767 ∷ pos 1 ∷ pos 0 ∷ []) 16 (cell 1 0)
    × Refused both (1 ∷ 1 ∷ 1 ∷ 1 ∷ []) (pos 0 ∷ negsuc 2147483647 ∷ negsuc 32767 ∷ pos 0 ∷ []) 17 (cell 1 0)
    × Refused both (1 ∷ 1 ∷ 1 ∷ 1 ∷ []) (pos 0 ∷ pos 0 ∷ pos 0 ∷ negsuc 2147483647 ∷ []) 17 (cell 1 1)

-- E2: "still after 16 and before 7": an output of no bytes is 7 for the next number, and 17 for the smallest
abbrev pub SmallestBefore7 : Type 0
SmallestBefore7 =
    Refused twice (1 ∷ 1 ∷ 1 ∷ 1 ∷ []) (pos 0 ∷ pos 0 ∷ pos 0 ∷ negsuc 32767 ∷ []) 17 (cell 1 1)
    × (write_rows_outcome twice 2 (record { kinds = 1 ∷ 1 ∷ 1 ∷ 1 ∷ []; numbers = pos 0 ∷ pos 0 ∷ pos 0 ∷ negsuc 32766 ∷ [] }) [] ≡ (refused 7 nowhere, []))

-- three rows of an Int16 and a nullable Binary column, read and written again
abbrev pub rewritten : List ℕ → Answer ℕ × List ℕ
rewritten s =
    let t : Table = layout_or_none false (bitfields_outcome (pos 0x502 ∷ pos 0x1900 ∷ []) false) in
    let read = (read_rows_outcome t s (replicate 6 0) (replicate 6 (pos 0))).1 in
    write_rows_outcome t 3 (record { kinds = read.0; numbers = read.1 }) (replicate 12 0xEE)

-- E6: "Rewriting now also reproduces complete rows with Binary columns, provided every such cell holds 0 or 1": icons 1, 0 and 1 come back, and
-- where one holds 2 it is written as 1
abbrev pub IconsRewritten : Type 0
IconsRewritten =
    (rewritten (1 ∷ 128 ∷ 2 ∷ 128 ∷ 3 ∷ 128 ∷ 1 ∷ 0 ∷ 0 ∷ 0 ∷ 1 ∷ 0 ∷ []) ≡ (gives 12, 1 ∷ 128 ∷ 2 ∷ 128 ∷ 3 ∷ 128 ∷ 1 ∷ 0 ∷ 0 ∷ 0 ∷ 1 ∷ 0 ∷ []))
    × (rewritten (1 ∷ 128 ∷ 2 ∷ 128 ∷ 3 ∷ 128 ∷ 1 ∷ 0 ∷ 0 ∷ 0 ∷ 2 ∷ 0 ∷ []) ≡ (gives 12, 1 ∷ 128 ∷ 2 ∷ 128 ∷ 3 ∷ 128 ∷ 1 ∷ 0 ∷ 0 ∷ 0 ∷ 1 ∷ 0 ∷ []))

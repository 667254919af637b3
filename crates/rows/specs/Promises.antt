-- What is promised of the row reader: its steps from the beginning on, and one step beside the bulk reader.
use Rattle.std.specs.Prelude.{ℕ, ◌+◌, ◌*◌, ◌≤◌, ◌<◌, ◌≡◌, List, ◌++◌, map, ℤ, pos, length, take, get_or, replicate}
use Rattle.common.specs.Answers.{Place, gives, refused}
use Rattle.table.specs.declared.layout.Table.{Table}
use Rattle.table.specs.Reading.{num_rows_answer, read_rows_outcome}
use Rattle.rows.specs.Next.{another, none, cells_of, next_outcome, beginning, walk}

-- "answers one cell after another, row by row", and "after the last it answers that there is none, however often asked": k steps from the
-- beginning answer the first k of the table's cells and of nothing but none after them; the place is the number of cells answered
abbrev pub CellAfterCell : Type 0
CellAfterCell = (t : Table) (s : List ℕ) (rows k : ℕ) → num_rows_answer t s ≡ gives rows
    → walk t s beginning k ≡ (take k (map (λ x. gives (another x)) (cells_of t s rows) ++ replicate k (gives none)), length (take k (cells_of t s rows)))

-- where the table or its stream is refused, every step answers that refusal, and the place stays
abbrev pub RefusedEachTime : Type 0
RefusedEachTime = (t : Table) (s : List ℕ) (k n : ℕ) (at : Place) → num_rows_answer t s ≡ refused n at
    → walk t s beginning k ≡ (replicate k (refused n at), beginning)

-- a step answers the cell of the bulk read that stands at its place, and past the last one none
abbrev pub SameCells : Type 0
SameCells = (t : Table) (s : List ℕ) (rows : ℕ) (kinds : List ℕ) (numbers : List ℤ) (i : ℕ) → num_rows_answer t s ≡ gives rows
    → rows * t.count ≤ length kinds → rows * t.count ≤ length numbers
    → let read = (read_rows_outcome t s kinds numbers).1 in
    (i < rows * t.count → next_outcome t s i ≡ (gives (another (get_or read.0 i 0, get_or read.1 i (pos 0))), i + 1))
    × (rows * t.count ≤ i → next_outcome t s i ≡ (gives none, i))

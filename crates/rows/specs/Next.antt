-- Document 01: "A row reader keeps the lent table stream and its place and answers one cell after another, row by row, as `Rows` does; after
-- the last it answers that there is none, however often asked."
use Rattle.std.specs.Prelude.{ℕ, zero, suc, ◌+◌, List, [], ◌∷◌, ℤ, pos, length, get_or, Option, Some, None, Result}
use Rattle.common.specs.Choice.{when◌then◌else◌, ◌<?◌}
use Rattle.common.specs.Answers.{Answer, gives, refused, on_given}
use Rattle.common.specs.declared.refusal.Refusal.{Refusal}
use Rattle.common.specs.Refusals.{answer_as}
use Rattle.cell.specs.declared.value.ValueRef.{ValueRef}
use Rattle.cell.specs.Kinds.{cell_as}
use Rattle.table.specs.declared.layout.Table.{Table}
use Rattle.table.specs.Layout.{types_of}
use Rattle.table.specs.Rows.{cell_at, row_by_row}
use Rattle.table.specs.Reading.{num_rows_answer}
use Rattle.rows.specs.declared.Step.{Step}

pub data Next : Type 0 where
  another : ℕ × ℤ → Next
  none : Next

-- the cells of a table, row by row
abbrev pub cells_of : Table → List ℕ → ℕ → List (ℕ × ℤ)
cells_of t s rows = row_by_row (cell_at (types_of t) t.long_string_refs rows s) rows t.count

-- the at-th of them; none past the end
abbrev pub at_th : List (ℕ × ℤ) → ℕ → Next
at_th cells at = when at <? length cells then another (get_or cells at (0, pos 0)) else none

-- 22, 20, 19, 14, as every call on a table; then the cell at the place
abbrev pub next_answer : Table → List ℕ → ℕ → Answer Next
next_answer t s at = on_given (num_rows_answer t s) (λ rows. gives (at_th (cells_of t s rows) at))

-- a cell moves the place by one, none and a refusal leave it
abbrev pub place_after : Answer Next → ℕ → ℕ
place_after (gives (another x)) at = at + 1
place_after (gives none) at = at
place_after (refused n p) at = at

abbrev pub next_outcome : Table → List ℕ → ℕ → Answer Next × ℕ
next_outcome t s at = (next_answer t s at, place_after (next_answer t s at) at)

-- the place of a reader that is made, by `new`
abbrev pub beginning : ℕ
beginning = 0

-- k steps one after another, each from the place that the one before it left: what they answer, and the place after them
abbrev pub walk : Table → List ℕ → ℕ → ℕ → List (Answer Next) × ℕ
walk t s at zero = ([], at)
walk t s at (suc k) =
    let step = next_outcome t s at in
    let others = walk t s step.1 k in
    (step.0 ∷ others.0, others.1)

-- a cell, or that there is none
abbrev pub another_as : Option ValueRef → Next
another_as (Some v) = another (cell_as v)
another_as None = none

abbrev pub next_as : Result (Option ValueRef) Refusal → Answer Next
next_as cell = answer_as another_as cell

abbrev pub step_as : Step → Answer Next × ℕ
step_as x = (next_as x.cell, x.at)

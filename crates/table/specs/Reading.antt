-- Document 01, "Rows": cells read by their place and in bulk.
use Rattle.std.specs.Prelude.{ℕ, ◌*◌, ◌||◌, List, ℤ, length, Result}
use Rattle.common.specs.Choice.{when◌then◌else◌, ◌<?◌}
use Rattle.common.specs.Lists.{◌over◌}
use Rattle.common.specs.Answers.{Answer, gives, refused, nowhere, on_given, outcome}
use Rattle.common.specs.declared.refusal.Refusal.{Refusal}
use Rattle.common.specs.Refusals.{answer_as}
use Rattle.order.specs.Order.{cell_fits_lem}
use Rattle.cell.specs.declared.value.ValueRef.{ValueRef}
use Rattle.cell.specs.Kinds.{cell_as}
use Rattle.widths.specs.Places.{rows_answer}
use Rattle.table.specs.declared.layout.Table.{Table}
use Rattle.table.specs.Layout.{types_of}
use Rattle.table.specs.Rows.{cell_at, row_by_row}

-- `num_rows`: 22, 20, 19, 14
abbrev pub num_rows_answer : Table → List ℕ → Answer ℕ
num_rows_answer t s = rows_answer t.columns t.count t.long_string_refs (length s)

-- `read_cell`: then 15, "row or column outside the table"
abbrev pub read_cell_answer : Table → List ℕ → ℕ → ℕ → Answer (ℕ × ℤ)
read_cell_answer t s r c =
    on_given (num_rows_answer t s)
    (λ rows. on_given (cell_fits_lem rows t.count r c) (λ x. gives (cell_at (types_of t) t.long_string_refs rows s r c)))

-- `read_rows`: then 7 where either output has no room for all cells; "output past the result is untouched"
abbrev pub cells_read : Table → List ℕ → List ℕ → List ℤ → ℕ → Answer (ℕ × (List ℕ × List ℤ))
cells_read t s kinds numbers rows =
    let cell = cell_at (types_of t) t.long_string_refs rows s in
    let cells = rows * t.count in
    when length kinds <? cells || length numbers <? cells then refused 7 nowhere
    else gives (cells, (row_by_row (λ r c. (cell r c).0) rows t.count over kinds, row_by_row (λ r c. (cell r c).1) rows t.count over numbers))

abbrev pub read_rows_answer : Table → List ℕ → List ℕ → List ℤ → Answer (ℕ × (List ℕ × List ℤ))
read_rows_answer t s kinds numbers = on_given (num_rows_answer t s) (cells_read t s kinds numbers)

abbrev pub read_rows_outcome : Table → List ℕ → List ℕ → List ℤ → Answer ℕ × (List ℕ × List ℤ)
read_rows_outcome t s kinds numbers = outcome (kinds, numbers) (read_rows_answer t s kinds numbers)

abbrev pub cell_read_as : Result ValueRef Refusal → Answer (ℕ × ℤ)
cell_read_as read = answer_as cell_as read

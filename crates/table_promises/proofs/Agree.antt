-- A bulk read agrees with a read by place.
use mathlib.Core.Path.{◌≡◌, ◌∙◌}
use mathlib.Core.List.{List}
use Prim.Native.Nat.{ℕ, ◌+◌, ◌*◌, ◌<◌, ◌≤◌}
use native.Mathlib.Omega.{arith}
use borrow.Author.Tests.{lt-ltb, le-ltb}
use lib.IntN.{ℤ, pos}
use lib.ListN.{length, get_or, drop, get_or-append}
use Rattle.common.specs.Lists.{◌over◌}
use Rattle.common.specs.Answers.{gives}
use Rattle.table.specs.declared.layout.Table.{Table}
use Rattle.table.specs.Layout.{types_of}
use Rattle.table.specs.Rows.{cell_at, row_by_row}
use Rattle.table.specs.Reading.{num_rows_answer, read_rows_outcome}
use Rattle.column_cells.proofs.Strides.{next_le}
use Rattle.table.proofs.Grid.{length-grid, grid_at}
use Rattle.table_promises.specs.Promises.{ReadsAgree}

-- what a bulk read leaves, where there is room
pub read_is : (t : Table) (s : List ℕ) (rows : ℕ) (kinds : List ℕ) (numbers : List ℤ) → num_rows_answer t s ≡ gives rows
    → rows * t.count ≤ length kinds → rows * t.count ≤ length numbers
    → read_rows_outcome t s kinds numbers ≡ (
      gives (rows * t.count),
      (row_by_row (λ (r c : ℕ). (cell_at (types_of t) t.long_string_refs rows s r c).0) rows t.count over kinds, row_by_row (λ (r c : ℕ). (cell_at (types_of t) t.long_string_refs rows s r c).1) rows t.count over numbers),
    )
read_is t s rows kinds numbers e k n = rw (e, le-ltb (length kinds) (rows * t.count) k, le-ltb (length numbers) (rows * t.count) n)

grid_over : {A : Type 0} (g : ℕ → ℕ → A) (d : A) (rows columns r c : ℕ) (l : List A) → r < rows → c < columns → get_or (row_by_row g rows columns over l) (r * columns + c) d ≡ g r c
grid_over g d rows columns r c l p q =
    let m = length-grid g d columns rows in
    let x = row_by_row g rows columns in
    let i : r * columns + c ≡ c + r * columns = omega arith in
    rw i (get_or-append x (drop (length x) l) d (c + r * columns) (omega (arith, next_le r rows columns p)) ∙ grid_at g d columns rows r c p q)

pub reads_agree : ReadsAgree
reads_agree t s rows kinds numbers r c e k n p q =
    let g = cell_at (types_of t) t.long_string_refs rows s in
    let all = read_is t s rows kinds numbers e k n in
    rw (all, e, lt-ltb r rows p, lt-ltb c t.count q, grid_over (λ i j. (g i j).0) 0 rows t.count r c kinds p q, grid_over (λ i j. (g i j).1) (pos 0) rows t.count r c numbers p q)

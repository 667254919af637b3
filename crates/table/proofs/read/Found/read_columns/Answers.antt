use Rattle.table.proofs.Grid.{filled_turn, filled_done, rows_shift}
use Rattle.table.proofs.Layouts.{stretch, cell-read, begins}
use Rattle.column_cells.specs.Strides.{form_cell}
use Rattle.table.specs.inner.Columns.{rows_from}
use Rattle.table.specs.Rows.{cell_at}
use Rattle.table.specs.Layout.{types_of}
use Rattle.widths.specs.Widths.{type_at}
use Rattle.column_cells.specs.declared.stride.Stride.{Stride}
use Rattle.column_cells.specs.inner.Handed.{Held}
use Rattle.column_cells.proofs.Columns.{read_held}
use Rattle.common.specs.Answers.{Answer}
use Rattle.cell.specs.Forms.{form_for}
use lib.ListN.{length}
use lib.IntN.{ℤ, pos}
use native.Mathlib.Omega.{arith}
use native.Mathlib.Nat.{add-zero}
use Prim.Native.Nat.{ℕ, ◌+◌}
use mathlib.Core.List.{List}
use mathlib.Core.Path.{ap, ◌∙◌}
use Rattle.table.proofs.read.Found.read_columns.Goals as goal

pub overflow_mul-start : goal.overflow_mul-start
overflow_mul-start c =
    let s = c.args.self.now in
    omega (arith, stretch s.table.now s.places _ s.lies c.loop-column.column c.loop-column-test.true c.args.band.first c.args.band.rows c.requires.0)

pub overflow_add-start : goal.overflow_add-start
overflow_add-start c =
    let s = c.args.self.now in
    omega (arith, stretch s.table.now s.places _ s.lies c.loop-column.column c.loop-column-test.true c.args.band.first c.args.band.rows c.requires.0)

pub loop-column-preserved : goal.loop-column-preserved
loop-column-preserved c =
    let l = c.loop-column in
    let s = c.args.self.now in
    let t = s.table.now in
    let long = t.long_string_refs in
    let first = c.args.band.first in
    let below = c.loop-column-test.true in
    let f = form_for (type_at (types_of t) l.column) long in
    let start = begins t s.places _ s.lies l.column below first in
    let run : Stride = record { column = l.column; step = t.count; rows = c.args.band.rows } in
    let there = stretch t s.places _ s.lies l.column below first c.args.band.rows c.requires.0 in
    let held : Held f (length s.stream.now) start (length l.kinds) (length l.numbers) run =
    record { few = omega (arith, s.lies.few, c.requires.0); narrow = s.lies.narrow; kinds-are = omega (arith, l.invariant.kinds.sized); numbers-are = omega (arith, l.invariant.numbers.sized); below = below; stream = there.0 } in
    let is = cell-read t s.places _ s.lies l.column below s.stream.now first in
    let cell = cell_at (types_of t) long s.places.rows s.stream.now in
    let out = rw c.form.ensures at c.read_column.ensures ∙ read_held f s.stream.now start run l.kinds l.numbers s.lies.small held in
    let kinds = ap (λ (x : Answer (Unit {0}) × (List ℕ × List ℤ)). x.1.0) out in
    let numbers = ap (λ (x : Answer (Unit {0}) × (List ℕ × List ℤ)). x.1.1) out in
    record {
      kinds = rw kinds (filled_turn 0 (λ r j. (cell (first + r) j).0) c.args.band.rows t.count l.column (λ r. (form_cell f s.stream.now start r).0) l.kinds below (λ r. ap (λ (x : ℕ × ℤ). x.0) (is r)) l.invariant.kinds);
      numbers = rw numbers (filled_turn (pos 0) (λ r j. (cell (first + r) j).1) c.args.band.rows t.count l.column (λ r. (form_cell f s.stream.now start r).1) l.numbers below (λ r. ap (λ (x : ℕ × ℤ). x.1) (is r)) l.invariant.numbers);
    }

pub returns : goal.returns
returns c =
    let l = c.loop-column in
    let s = c.args.self.now in
    let t = s.table.now in
    let first = c.args.band.first in
    let cell = cell_at (types_of t) t.long_string_refs s.places.rows s.stream.now in
    let z = ap (λ (k : ℕ). rows_from (λ r j. (cell r j).0) t.count k c.args.band.rows) (add-zero first) in
    let y = ap (λ (k : ℕ). rows_from (λ r j. (cell r j).1) t.count k c.args.band.rows) (add-zero first) in (
      filled_done 0 (λ r j. (cell (first + r) j).0) c.args.band.rows t.count l.column l.kinds c.loop-column-test.false l.invariant.kinds ∙ rows_shift (λ r j. (cell r j).0) t.count first 0 c.args.band.rows ∙ z,
      filled_done (pos 0) (λ r j. (cell (first + r) j).1) c.args.band.rows t.count l.column l.numbers c.loop-column-test.false l.invariant.numbers ∙ rows_shift (λ r j. (cell r j).1) t.count first 0 c.args.band.rows ∙ y,
    )

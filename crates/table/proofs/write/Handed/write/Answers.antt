use Rattle.table.proofs.Layouts.{bytes_in, all_judged, handed, in-rows, next-place, fine-by_form, bytes-by_form, size-by_form}
use Rattle.common.proofs.Lists.{from_next}
use Rattle.common.proofs.Answers.{fine-first}
use Rattle.table.proofs.Plain.{plain_turn}
use Rattle.table.specs.inner.Columns.{given_bytes, plain}
use Rattle.common.proofs.Parts.{lent_turn, length-tail}
use Rattle.common.specs.Lists.{◌over◌, over_at, from}
use lib.ListN.{length, take, drop}
use native.Mathlib.Omega.{arith}
use native.Mathlib.Nat.{sub-zero, mul-zero}
use Prim.Native.Nat.{ℕ, ◌+◌, ◌-◌}
use mathlib.Core.List.{List}
use mathlib.Core.Path.{sym, ap, ◌∙◌}
use Rattle.table.proofs.write.Handed.write.Goals as goal

pub loop-column-init : goal.loop-column-init
loop-column-init c =
    let s = c.args.self.now in
    record {
      place = sym (mul-zero s.rows);
      left = rw sub-zero;
      fine = rw sub-zero (sym (all_judged s.table.now s.rows s.kinds.now s.numbers.now s.whole s.narrow s.few s.kinds_are s.numbers_are) ∙ c.requires.1);
    }

pub slice_bounds-write_column-count : goal.slice_bounds-write_column-count
slice_bounds-write_column-count c =
    let s = c.args.self.now in
    let there = in-rows s.table.now s.rows s.kinds.now s.numbers.now s.whole s.narrow s.few s.kinds_are s.numbers_are c.loop-column.column c.loop-column-test.true in
    omega (arith, c.loop-column.invariant.place)

pub slice_bounds-write_column-start : goal.slice_bounds-write_column-start
slice_bounds-write_column-start c =
    let s = c.args.self.now in
    let there = in-rows s.table.now s.rows s.kinds.now s.numbers.now s.whole s.narrow s.few s.kinds_are s.numbers_are c.loop-column.column c.loop-column-test.true in
    omega (arith, c.loop-column.invariant.place)

pub write_column-requires : goal.write_column-requires
write_column-requires c =
    let s = c.args.self.now in
    let t = s.table.now in
    let l = c.loop-column in
    let below = c.loop-column-test.true in
    let there = in-rows t s.rows s.kinds.now s.numbers.now s.whole s.narrow s.few s.kinds_are s.numbers_are l.column below in
    let tail = length-tail l.at l.out in
    let f = bytes_in t s.rows s.kinds.now s.numbers.now s.whole s.narrow s.few s.kinds_are s.numbers_are in
    let fine = fine-first f l.column (from (l.column + 1) (t.count - (l.column + 1))) (rw (from_next l.column t.count below) at l.invariant.fine) in
    rw (c.form-form.ensures, c.run.ensures)
    (record {
      handed = handed t s.rows s.kinds.now s.numbers.now s.whole s.narrow s.few s.kinds_are s.numbers_are l.column below;
      room = omega (arith, l.invariant.place);
      fine = fine-by_form t s.rows s.kinds.now s.numbers.now s.whole s.narrow s.few s.kinds_are s.numbers_are l.column below fine.0;
    })

pub overflow_add-at : goal.overflow_add-at
overflow_add-at c =
    let s = c.args.self.now in
    let there = in-rows s.table.now s.rows s.kinds.now s.numbers.now s.whole s.narrow s.few s.kinds_are s.numbers_are c.loop-column.column c.loop-column-test.true in
    let width_is = rw c.form-form.ensures at c.width.ensures in
    rw width_is (omega (arith, c.loop-column.invariant.place))

pub loop-column-preserved : goal.loop-column-preserved
loop-column-preserved c =
    let s = c.args.self.now in
    let t = s.table.now in
    let l = c.loop-column in
    let below = c.loop-column-test.true in
    let there = in-rows t s.rows s.kinds.now s.numbers.now s.whole s.narrow s.few s.kinds_are s.numbers_are l.column below in
    let next = next-place t s.rows s.kinds.now s.numbers.now s.whole s.narrow s.few s.kinds_are s.numbers_are l.column below in
    let f = bytes_in t s.rows s.kinds.now s.numbers.now s.whole s.narrow s.few s.kinds_are s.numbers_are in
    let fine = fine-first f l.column (from (l.column + 1) (t.count - (l.column + 1))) (rw (from_next l.column t.count below) at l.invariant.fine) in
    let bytes = bytes-by_form t s.rows s.kinds.now s.numbers.now s.whole s.narrow s.few s.kinds_are s.numbers_are l.column below fine.0 in
    let size = size-by_form t s.rows s.kinds.now s.numbers.now s.whole s.narrow s.few s.kinds_are s.numbers_are l.column below fine.0 in
    let part = take (length l.out - l.at) (drop l.at l.out) in
    let put = rw (c.form-form.ensures, c.run.ensures) at c.write_column.ensures ∙ ap (λ (x : List ℕ). x over part) bytes in
    let width_is = rw c.form-form.ensures at c.width.ensures in
    record {
      place = rw width_is (omega (arith, l.invariant.place, next));
      left = rw width_is (lent_turn (given_bytes (f l.column)) (plain f (l.column + 1) (t.count - (l.column + 1))) l.out _ l.at _ (omega (arith, l.invariant.place)) size put
          ∙ ap (λ (x : List ℕ). over_at l.at x l.out) (sym (plain_turn f l.column t.count below)) ∙ l.invariant.left);
      fine = fine.1;
    }

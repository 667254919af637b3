use Rattle.table.proofs.Grid.{band_begin, band_turn, band_done, band_within}
use Rattle.table.specs.Rows.{cell_at}
use Rattle.table.specs.Layout.{types_of}
use lib.IntN.{pos}
use native.Mathlib.Omega.{arith}
use native.Mathlib.Nat.{mul-le-mul_right}
use Prim.Native.Nat.{ℕ, ◌+◌, ◌*◌, ◌-◌, ◌≤◌}
use mathlib.Core.Path.{◌≡◌}
use Rattle.table.proofs.read.Found.read_bands.Goals as goal

-- a band lies within the rows, and its cells within their cells, which are few
band : (first some rows count : ℕ) → rows ≤ 65536 → count ≤ 64 → first + some ≤ rows
    → (first * count + some * count ≤ rows * count) × (rows * count ≤ 4194304)
band first some rows count few narrow h = (band_within first some rows count h, omega (arith, mul-le-mul_right {m = rows} {n = 65536} count few))

pub loop-first-init : goal.loop-first-init
loop-first-init c = record { kinds = band_begin _ 0 _ _ _ c.requires.0; numbers = band_begin _ (pos 0) _ _ _ c.requires.1 }

pub slice_bounds-read_columns-end : goal.slice_bounds-read_columns-end
slice_bounds-read_columns-end c =
    let s = c.args.self.now in
    omega (arith, band c.loop-first.first c.min.result s.places.rows s.table.now.count s.lies.few s.lies.narrow (omega arith))

pub slice_bounds-read_columns-end-in-loop-first : goal.slice_bounds-read_columns-end-in-loop-first
slice_bounds-read_columns-end-in-loop-first c =
    let s = c.args.self.now in
    omega (arith, band c.loop-first.first c.min.result s.places.rows s.table.now.count s.lies.few s.lies.narrow (omega arith))

pub loop-first-preserved : goal.loop-first-preserved
loop-first-preserved c =
    let s = c.args.self.now in
    let t = s.table.now in
    let cell = cell_at (types_of t) t.long_string_refs s.places.rows s.stream.now in
    let l = c.loop-first in
    let some = c.min.result in
    let in_rows : l.first + some ≤ s.places.rows = omega arith in
    let after : l.first + 1024 ≡ l.first + some = omega arith in
    let cells : l.first * t.count + some * t.count - l.first * t.count ≡ some * t.count = omega arith in
    record {
      kinds = band_turn (λ r j. (cell r j).0) 0 t.count s.places.rows c.args.kinds.now l.kinds c.read_columns.new.kinds l.first some _ _ in_rows after cells c.read_columns.ensures.0 l.invariant.kinds;
      numbers = band_turn (λ r j. (cell r j).1) (pos 0) t.count s.places.rows c.args.numbers.now l.numbers c.read_columns.new.numbers l.first some _ _ in_rows after cells c.read_columns.ensures.1 l.invariant.numbers;
    }

pub returns : goal.returns
returns c =
    let l = c.loop-first in
    record { kinds = band_done _ 0 _ _ _ l.first l.kinds c.loop-first-test.false l.invariant.kinds; numbers = band_done _ (pos 0) _ _ _ l.first l.numbers c.loop-first-test.false l.invariant.numbers }

-- after the last band
pub returns-2 : goal.returns-2
returns-2 c =
    let s = c.args.self.now in
    let t = s.table.now in
    let cell = cell_at (types_of t) t.long_string_refs s.places.rows s.stream.now in
    let l = c.loop-first in
    let some = c.min.result in
    let in_rows : l.first + some ≤ s.places.rows = omega arith in
    let all : s.places.rows ≡ l.first + some = omega arith in
    let done : s.places.rows ≤ s.places.rows = omega arith in
    let cells : l.first * t.count + some * t.count - l.first * t.count ≡ some * t.count = omega arith in
    record {
      kinds = band_done (λ r j. (cell r j).0) 0 t.count s.places.rows c.args.kinds.now _ _ done (band_turn (λ r j. (cell r j).0) 0 t.count s.places.rows c.args.kinds.now l.kinds c.read_columns.new.kinds l.first some _ _ in_rows all cells c.read_columns.ensures.0 l.invariant.kinds);
      numbers = band_done (λ r j. (cell r j).1) (pos 0) t.count s.places.rows c.args.numbers.now _ _ done (band_turn (λ r j. (cell r j).1) (pos 0) t.count s.places.rows c.args.numbers.now l.numbers c.read_columns.new.numbers l.first some _ _ in_rows all cells c.read_columns.ensures.1 l.invariant.numbers);
    }

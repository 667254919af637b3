use Rattle.table.proofs.Grid.{Filled}
use Rattle.table.specs.Rows.{cell_at}
use Rattle.table.specs.Layout.{types_of}
use lib.IntN.{pos}
use Prim.Native.Nat.{◌+◌}
use Rattle.table.proofs.read.Found.read_columns.Given as goal

-- The columns before this turn's are right.
abbrev pub invariant-loop-column : goal.invariant-loop-column
invariant-loop-column l =
    let t = l.self.table.now in
    let cell = cell_at (types_of t) t.long_string_refs l.self.places.rows l.self.stream.now in
    record {
      kinds : Filled 0 (λ r k. (cell (l.band.first + r) k).0) l.band.rows l.step l.column l.kinds;
      numbers : Filled (pos 0) (λ r k. (cell (l.band.first + r) k).1) l.band.rows l.step l.column l.numbers;
    }

use Rattle.table.proofs.Grid.{Banded}
use Rattle.table.specs.Rows.{cell_at}
use Rattle.table.specs.Layout.{types_of}
use lib.IntN.{pos}
use Rattle.table.proofs.read.Found.read_bands.Given as goal

-- The bands before this turn's are written.
abbrev pub invariant-loop-first : goal.invariant-loop-first
invariant-loop-first l =
    let t = l.self.table.now in
    let cell = cell_at (types_of t) t.long_string_refs l.rows l.self.stream.now in
    record {
      kinds : Banded (λ r j. (cell r j).0) 0 l.count l.rows l.initial.kinds l.first l.kinds;
      numbers : Banded (λ r j. (cell r j).1) (pos 0) l.count l.rows l.initial.numbers l.first l.numbers;
    }

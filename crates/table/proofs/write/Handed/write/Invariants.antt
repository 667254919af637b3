use Rattle.table.specs.inner.Columns.{plain}
use Rattle.table.specs.Writing.{column_bytes}
use Rattle.widths.specs.Widths.{row_size_lem}
use Rattle.table.specs.Layout.{types_of}
use Rattle.common.specs.Answers.{gives, refusal_of, each}
use Rattle.common.specs.Lists.{◌over◌, over_at, from}
use lib.ListN.{take}
use Prim.Native.Nat.{◌-◌, ◌*◌}
use mathlib.Core.Path.{◌≡◌}
use Rattle.table.proofs.write.Handed.write.Given as goal

-- What is still to be written, put at the place, stays the same in each turn.
abbrev pub invariant-loop-column : goal.invariant-loop-column
invariant-loop-column l =
    let t = l.self.table.now in
    let bytes_in = column_bytes (types_of t) t.long_string_refs l.self.rows (record { kinds = l.self.kinds.now; numbers = l.self.numbers.now }) in
    record {
      place : l.at ≡ l.self.rows * row_size_lem (take l.column (types_of t)) t.long_string_refs;
      left : over_at l.at (plain bytes_in l.column (t.count - l.column)) l.out ≡ plain bytes_in 0 t.count over l.initial.out;
      fine : refusal_of (each bytes_in (from l.column (t.count - l.column))) ≡ gives tt;
    }

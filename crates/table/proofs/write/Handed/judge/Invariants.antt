use Rattle.table.specs.Writing.{column_bytes}
use Rattle.table.specs.Layout.{types_of}
use Rattle.common.specs.Answers.{refusal_of, each}
use Rattle.common.specs.Lists.{from}
use Prim.Native.Nat.{◌-◌}
use mathlib.Core.Path.{◌≡◌}
use Rattle.table.proofs.write.Handed.judge.Given as goal

-- What the columns that are left say, is what all say.
abbrev pub invariant-loop-column : goal.invariant-loop-column
invariant-loop-column l =
    let t = l.self.table.now in
    let bytes_in = column_bytes (types_of t) t.long_string_refs l.self.rows (record { kinds = l.self.kinds.now; numbers = l.self.numbers.now }) in
    refusal_of (each bytes_in (from l.column (t.count - l.column))) ≡ refusal_of (each bytes_in (from 0 t.count))

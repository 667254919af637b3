use mathlib.Core.Path.{◌≡◌}
use Prim.Native.Nat.{◌+◌, ◌-◌, ◌*◌, ◌≤◌}
use lib.ListN.{length, drop}
use Rattle.common.specs.Answers.{gives}
use Rattle.common.proofs.Run.{Run}
use Rattle.pool_stream.specs.Entries.{entries_in}
use Rattle.pool_stream.specs.inner.Sizes.{lengths_in, counts_in}
use Rattle.pool_stream.proofs.load.fill.Given as goal

abbrev pub invariant-loop-i : goal.invariant-loop-i
invariant-loop-i l =
    Run l.initial.lengths 0 (lengths_in l.s) l.n l.lengths l.i × Run l.initial.counts 0 (counts_in l.s) l.n l.counts l.i
    × (4 + 4 * l.i ≤ l.at) × (l.at ≤ length l.s) × (entries_in (length l.s - l.i) (drop l.at l.s) ≡ gives (drop l.i (lengths_in l.s), drop l.i (counts_in l.s)))

use Rattle.widths.specs.Places.{starts_from}
use Rattle.widths.specs.Widths.{zeros}
use Rattle.common.specs.Lists.{over_at, ◌over◌, total}
use lib.ListN.{length, take, drop}
use Prim.Native.Nat.{◌+◌, ◌/◌}
use mathlib.Core.Path.{◌≡◌}
use Rattle.widths.proofs.places.starts_of.Given as goal

-- What is still to be stored, stored over what there is, stays the same in each turn.
abbrev pub invariant-loop-c : goal.invariant-loop-c
invariant-loop-c l =
    (length l.starts ≡ 64) × (l.before + total (drop l.c (take l.count l.widths)) ≡ l.row_size)
    × (over_at l.c (starts_from (l.bytes / l.row_size) l.before (drop l.c (take l.count l.widths))) l.starts ≡ starts_from (l.bytes / l.row_size) 0 (take l.count l.widths) over zeros)

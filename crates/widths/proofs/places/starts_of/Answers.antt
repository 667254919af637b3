use Rattle.widths.specs.Places.{starts_from}
use Rattle.common.proofs.Parts.{over_set}
use Rattle.common.specs.Lists.{total}
use lib.ListN.{length, get_or, take, drop, length-set}
use lib.Seq.{slice-cons}
use native.Mathlib.Omega.{arith}
use native.Mathlib.Numerals.{add-one}
use Prim.Native.Nat.{◌+◌, ◌*◌, ◌/◌}
use mathlib.Core.List.{◌∷◌}
use mathlib.Core.Path.{◌≡◌, ◌∙◌}
use Rattle.widths.proofs.places.starts_of.Goals as goal

pub loop-c-preserved : goal.loop-c-preserved
loop-c-preserved c =
    let whole : length c.args.widths ≡ 64 = c.well_formed.0.1.0.1 in
    let next : drop c.loop-c.c (take c.args.count c.args.widths) ≡ get_or c.args.widths c.loop-c.c 0 ∷ drop (c.loop-c.c + 1) (take c.args.count c.args.widths) = let w = whole in rw add-one (slice-cons c.loop-c.c c.args.count c.args.widths 0 c.loop-c-test.true (omega (arith, c.requires.0))) in
    let sum : c.loop-c.before + (get_or c.args.widths c.loop-c.c 0 + total (drop (c.loop-c.c + 1) (take c.args.count c.args.widths))) ≡ c.args.row_size = rw next at c.loop-c.invariant.1 in
    let l = c.loop-c in
    let rows = c.args.bytes / c.args.row_size in
    let rest = drop (l.c + 1) (take c.args.count c.args.widths) in
    let w = get_or c.args.widths l.c 0 in (
      length-set l.starts l.c c.column_start.result ∙ l.invariant.0,
      omega (arith, sum),
      rw c.column_start.ensures (over_set (rows * l.before) (starts_from rows (l.before + w) rest) l.starts l.c (omega (arith, c.requires.0)) ∙ rw next at l.invariant.2),
    )

use Rattle.table.proofs.Bits.{bits-given, bits-bad, bits-turn, bits-stop, laid_stop}
use Rattle.widths.specs.Judged.{each_at}
use Rattle.column.specs.Columns.{building, bits_column}
use Rattle.std.proofs.Common.{rules}
use mir.Val.{to_z, of_z}
use mir.Syntax.{w32}
use borrow.Author.Tests.{le-ltb}
use lib.Seq.{drop-cons}
use lib.ListN.{length, get_or, drop, length-set}
use lib.IntN.{pos}
use native.Mathlib.Omega.{arith}
use native.Mathlib.Numerals.{add-one}
use Prim.Native.Nat.{◌+◌}
use mathlib.Core.List.{◌∷◌}
use mathlib.Core.Path.{◌≡◌, ◌∙◌}
use Rattle.table.proofs.layout.Table.from_bitfields.Goals as goal

pub returns-in_default : goal.returns-in_default
returns-in_default c =
    let k = c.loop-column.column in
    let bits = c.args.bits.now in
    let z = get_or bits k (pos 0) in
    let next : drop k bits ≡ z ∷ drop (k + 1) bits = rw add-one (drop-cons bits k (pos 0) c.loop-column-test.true) in
    let back : to_z w32 (of_z w32 z) ≡ z = search rules in
    let e = rw (c.build-in-loop-column.ensures, back) at c.in_default.ensures in
    let stop = bits-stop (bits_column building) z (drop (k + 1) bits) k c.loop-column.columns _ _ (bits-bad building k z _ _ e) in
    rw (le-ltb 64 (length bits) c.if-count-gt-MAX_COLUMNS.false) (laid_stop (each_at (bits_column building) 0 bits) _ _ _ _ (stop ∙ rw next at c.loop-column.invariant.left))

pub loop-column-preserved : goal.loop-column-preserved
loop-column-preserved c =
    let l = c.loop-column in
    let k = l.column in
    let bits = c.args.bits.now in
    let z = get_or bits k (pos 0) in
    let next : drop k bits ≡ z ∷ drop (k + 1) bits = rw add-one (drop-cons bits k (pos 0) c.loop-column-test.true) in
    let back : to_z w32 (of_z w32 z) ≡ z = search rules in
    let e = rw (c.build-in-loop-column.ensures, back) at c.in-Ok.ensures in
    let turn = bits-turn (bits_column building) z (drop (k + 1) bits) k l.columns c.in-Ok.made (bits-given building k z c.in-Ok.made e) (omega (arith, c.if-count-gt-MAX_COLUMNS.false)) in
    record { sized = length-set l.columns k c.in-Ok.made ∙ l.invariant.sized; left = turn ∙ rw next at l.invariant.left }

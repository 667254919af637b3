use Rattle.column.proofs.Masks.{mark_is}
use Rattle.column.proofs.Unnamed.{bits_are}
use mir.Facts.{to_z-of_z}
use mir.Val.{of_z}
use mir.Syntax.{w32}
use mathlib.Core.Path.{sym}
use Rattle.column.proofs.column.ColumnBuilder.with_bitfield.Goals as goal

pub returns : goal.returns
returns c =
    let back = to_z-of_z {w = w32} {z = c.args.type_bits} c.ranges.type_bits in
    let b = of_z w32 c.args.type_bits in
    rw (sym (rw back at c.in-Some.ensures), mark_is 9 b, mark_is 12 b, mark_is 13 b, bits_are c.args.type_bits)

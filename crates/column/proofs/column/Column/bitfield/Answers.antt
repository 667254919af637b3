use Rattle.column.proofs.Types.{sound-type}
use Rattle.column.proofs.Masks.{all-marks, type-clear}
use Rattle.column.specs.Columns.{marks}
use Rattle.column.specs.Bits.{type_bits_lem}
use mir.Facts.{to_z_pos}
use mir.Syntax.{w32}
use native.Mathlib.Omega.{arith}
use Prim.Native.Nat.{◌+◌, ◌<◌}
use mathlib.Core.Path.{◌≡◌, ◌∙◌, sym}
use Rattle.column.proofs.column.Column.bitfield.Goals as goal

pub overflow_cast-result : goal.overflow_cast-result
overflow_cast-result c =
    let sum : (c.marked-all.result ≡ type_bits_lem c.args.self.coltype + marks c.args.self) × (c.marked-all.result < 16384) = let s = c.args.self in let fits = (sound-type 0 s.coltype (sym c.too_long.ensures ∙ c.if-too_long.false)).1 in let clear = type-clear s.coltype fits in all-marks (type_bits_lem s.coltype) _ _ _ s.is_localizable s.is_nullable s.is_primary_key clear.0 clear.1 (rw c.type_bits-base.ensures at c.marked-loc.ensures) c.marked-nul.ensures c.marked-all.ensures in
    record { sfits = omega (arith, sum.1) }

pub returns : goal.returns
returns c =
    let sum : (c.marked-all.result ≡ type_bits_lem c.args.self.coltype + marks c.args.self) × (c.marked-all.result < 16384) = let s = c.args.self in let fits = (sound-type 0 s.coltype (sym c.too_long.ensures ∙ c.if-too_long.false)).1 in let clear = type-clear s.coltype fits in all-marks (type_bits_lem s.coltype) _ _ _ s.is_localizable s.is_nullable s.is_primary_key clear.0 clear.1 (rw c.type_bits-base.ensures at c.marked-loc.ensures) c.marked-nul.ensures c.marked-all.ensures in
    let s = c.args.self in
    rw ((sound-type 0 s.coltype (sym c.too_long.ensures ∙ c.if-too_long.false)).0, to_z_pos w32 {n = c.marked-all.result} (omega (arith, sum.1)), sum.0)

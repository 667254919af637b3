use Prim.Native.Nat.{◌+◌, ◌-◌, ◌/◌, ◌%◌}
use native.Mathlib.Nat.{sub-zero}
use native.Mathlib.Omega.{arith}
use mathlib.Core.Path.{◌≡◌, refl}
use mathlib.Core.List.{◌∷◌}
use Rattle.common.proofs.Writing.{begin, step, done}
use Rattle.little_endian.specs.Numbers.{bytes_of}
use Rattle.little_endian.proofs.Laws.{length-bytes, bytes_next, bytes-none}
use Rattle.little_endian.proofs.put.Goals as goal

pub loop-i-init : goal.loop-i-init
loop-i-init c = (omega arith, rw sub-zero (begin (rw length-bytes c.requires)))

pub loop-i-preserved : goal.loop-i-preserved
loop-i-preserved c =
    let next : let l = c.loop-i in let width = c.args.width in bytes_of (width - l.i) l.rest ≡ l.rest % 256 ∷ bytes_of (width - (l.i + 1)) (l.rest / 256) = bytes_next _ _ _ c.loop-i-test.true in
    (omega arith, step c.loop-i.invariant.1 next _ refl)

pub returns : goal.returns
returns c = done c.loop-i.invariant.1 (bytes-none _ _ _ c.loop-i-test.false)

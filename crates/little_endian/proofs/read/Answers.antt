use Rattle.std.proofs.Common.{◌+◌, ◌-◌, ◌<◌, ◌^◌, arith}
use Rattle.std.specs.Prelude.{min}
use Rattle.little_endian.specs.Promises.{AreBytes}
use Rattle.little_endian.proofs.Laws.{number_below}
use Rattle.little_endian.proofs.read.Goals as goal

pub overflow_mul-value : goal.overflow_mul-value
overflow_mul-value c =
    let l = c.loop-i in
    let a = c.args in
    let byte : AreBytes a.bytes.now = λ i. omega (arith, c.type_inv.bytes i) in
    let small : l.value < 256 ^ 3 = rw l.invariant.1 (number_below (min a.width 4 - l.i) 3 a.bytes.now (a.at + l.i) byte (omega arith)) in
    omega (arith, small)

pub overflow_add-value : goal.overflow_add-value
overflow_add-value c =
    let l = c.loop-i in
    let a = c.args in
    let byte : AreBytes a.bytes.now = λ i. omega (arith, c.type_inv.bytes i) in
    let small : l.value < 256 ^ 3 = rw l.invariant.1 (number_below (min a.width 4 - l.i) 3 a.bytes.now (a.at + l.i) byte (omega arith)) in
    omega (arith, small, byte (a.at + (l.i - 1)))

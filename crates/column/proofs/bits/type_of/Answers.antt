use Rattle.std.proofs.Common.{arith}
use Rattle.std.proofs.lemmas.Bool.Decides.{nat_tests}
use Rattle.column.proofs.Masks.{type_by_masks}
use Rattle.column.proofs.bits.type_of.Goals as goal

pub returns-then-bits : goal.returns-then-bits
returns-then-bits c = rw (type_by_masks c.args.bits c.ranges.bits) (grind (arith, nat_tests))

pub returns-then-bits-ne0 : goal.returns-then-bits-ne0
returns-then-bits-ne0 c = rw (type_by_masks c.args.bits c.ranges.bits) (grind (arith, nat_tests))

pub returns-in-4 : goal.returns-in-4
returns-in-4 c = rw (type_by_masks c.args.bits c.ranges.bits) (grind (arith, nat_tests))

pub returns-in-4-2 : goal.returns-in-4-2
returns-in-4-2 c = rw (type_by_masks c.args.bits c.ranges.bits) (grind (arith, nat_tests))

pub returns-in-1 : goal.returns-in-1
returns-in-1 c = rw (type_by_masks c.args.bits c.ranges.bits) (grind (arith, nat_tests))

pub returns-in_default : goal.returns-in_default
returns-in_default c = rw (type_by_masks c.args.bits c.ranges.bits) (grind (arith, nat_tests))

pub returns-in_default-2 : goal.returns-in_default-2
returns-in_default-2 c = rw (type_by_masks c.args.bits c.ranges.bits) (grind (arith, nat_tests))

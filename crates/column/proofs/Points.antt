-- The points of specs/Points.antt, by computation.
use mathlib.Core.Path.{refl}
use Rattle.column.specs.Points.{FirstTests, SizeTests, BadSizes, Survives, WrittenBits, MaximumTooLarge, NullChecked, IntChecked, RangeChecked, TextChecked, BinaryChecked, CheckOrder}

pub first_tests : FirstTests
first_tests = (refl, refl, refl, refl, refl, refl, refl, refl, refl)

pub size-tests : SizeTests
size-tests = (refl, refl, refl, refl, refl, refl, refl)

pub bad-sizes : BadSizes
bad-sizes = (refl, refl, refl, refl)

pub survives : Survives
survives = (refl, refl)

pub written-bits : WrittenBits
written-bits = (refl, refl, refl, refl, refl, refl, refl, refl, refl)

pub maximum_too_large : MaximumTooLarge
maximum_too_large = refl

pub null_checked : NullChecked
null_checked = (refl, refl, refl, refl, refl)

pub int_checked : IntChecked
int_checked = (refl, refl, refl, refl, refl, refl, refl, refl, refl, refl)

pub range_checked : RangeChecked
range_checked = (refl, refl, refl, refl, refl)

pub text-checked : TextChecked
text-checked = (refl, refl, refl, refl, refl, refl, refl, refl, refl)

pub binary_checked : BinaryChecked
binary_checked = (refl, refl, refl, refl)

pub check_order : CheckOrder
check_order = (λ text e. rw e, λ text e. rw e, λ text e. rw e, refl, refl)

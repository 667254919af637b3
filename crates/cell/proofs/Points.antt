-- The points of specs/Points.antt, by computation.
use mathlib.Core.Path.{refl}
use Rattle.cell.specs.Points.{KnownKinds, ReferenceBounds, ShortBounds, RangeBeforeShort, KindBeforeReference, KindBeforeRange, MaximumBounds, NullStored, BytesOfEach, ReadAgain, Int16Bounds, Int32Bounds, KindFirst, NullNumber, ReadAsBefore, BinaryRead, BinaryWritten, BinaryRefused}

pub reference-bounds : ReferenceBounds
reference-bounds = (λ m a. refl, λ m a. refl, λ m a. refl, λ m a. refl, λ m a. refl, λ m a. refl, λ m a. refl)

pub short-bounds : ShortBounds
short-bounds = (λ m a. refl, λ m a. refl, λ m a. refl, λ m a. refl)

pub range_before_short : RangeBeforeShort
range_before_short = λ m a. refl

pub kind_before_reference : KindBeforeReference
kind_before_reference = (λ l m a. refl, λ l m a. refl, λ l m a. refl, λ m a. refl, λ m a. refl)

pub kind_before_range : KindBeforeRange
kind_before_range = (λ l a. refl, λ l a. refl, λ l a. refl, λ l a. refl)

pub maximum_bounds : MaximumBounds
maximum_bounds = (λ c. refl, λ c. refl, λ c l. refl)

pub null_stored : NullStored
null_stored = λ n. (λ l a. refl, λ l a. refl, λ m l a. refl, λ l a. refl)

pub bytes-of_each : BytesOfEach
bytes-of_each = (λ a. refl, λ a. refl, λ a. refl, λ a. refl, λ a. refl, λ a. refl, λ a. refl, λ a. refl, λ a. refl)

pub read_again : ReadAgain
read_again = (refl, refl, refl, refl, refl, refl, refl, refl)

pub int16-bounds : Int16Bounds
int16-bounds = (λ l a. refl, λ l a. refl, λ l a. refl, λ l a. refl, λ l a. refl)

pub int32_bounds : Int32Bounds
int32_bounds = (λ l a. refl, λ l a. refl, λ l a. refl, λ l a. refl, λ l a. refl)

pub kind_first : KindFirst
kind_first = (λ l a. refl, λ l a. refl, λ l a. refl, λ l a. refl, λ l a. refl, λ l a. refl)

pub null_number : NullNumber
null_number = (λ l a. refl, λ l a. refl)

pub read_as-before : ReadAsBefore
read_as-before = (refl, refl, refl, refl)

pub binary_read : BinaryRead
binary_read = (refl, refl, refl, refl, refl)

pub binary_written : BinaryWritten
binary_written = (λ n l a. refl, λ n l a. refl)

pub binary_refused : BinaryRefused
binary_refused = (λ n l a. refl, λ n l a. refl, λ n l a. refl)

pub known_kinds : KnownKinds
known_kinds = (refl, refl, refl, λ n. refl, λ n. refl, λ n. refl)

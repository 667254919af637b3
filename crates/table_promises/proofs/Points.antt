-- The points of specs/Points.antt, by computation.
use mathlib.Core.Path.{refl}
use Rattle.table_promises.specs.Points.{LargestWritten, SmallestInOrder, SmallestBefore7, IconsRewritten}

pub largest_written : LargestWritten
largest_written = (λ out. refl, λ out. refl, refl)

pub smallest_in_order : SmallestInOrder
smallest_in_order = (λ out. refl, λ out. refl, λ out. refl)

pub smallest_before_7 : SmallestBefore7
smallest_before_7 = (λ out. refl, refl)

pub icons_rewritten : IconsRewritten
icons_rewritten = (refl, refl)

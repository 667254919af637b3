-- The points of specs/Points.antt, by computation.
use mathlib.Core.Path.{refl}
use Rattle.little_endian.specs.Points.{LowestFirst, FourAtMost, OutputRoom}

pub lowest_first : LowestFirst
lowest_first = (refl, refl, refl, refl, refl)

pub four_at_most : FourAtMost
four_at_most = (refl, refl)

pub output-room : OutputRoom
output-room = (refl, refl, refl)

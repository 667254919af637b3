-- The points of specs/Points.antt, by computation.
use mathlib.Core.Path.{refl}
use Rattle.rows.specs.Points.{WalkOverM, PlaceKept}

pub walk-over_m : WalkOverM
walk-over_m = refl

pub place_kept : PlaceKept
place_kept = (λ at. refl, λ at. refl, refl, refl)

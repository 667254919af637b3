-- The points of specs/Points.antt, by computation.
use mathlib.Core.Path.{refl}
use Rattle.common.specs.Points.{Limits}

pub limits : Limits
limits = (λ at. refl, λ at. refl, λ at. refl, λ at. refl, λ at. refl, λ at. refl, λ at. refl)

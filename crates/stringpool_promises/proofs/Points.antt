-- The points of specs/Points.antt, by computation.
use mathlib.Core.Path.{refl}
use native.Mathlib.Omega.{arith}
use Rattle.pool_entries.specs.Sound.{sound_rooms}
use Rattle.stringpool_promises.specs.Points.{Sums, Counts, Shown, MixedSums, MixedCounts, DuplicatesStay, PlainStreams}

pub sums : Sums
unfolding sound_rooms
sums = (refl, refl, refl, refl, refl, refl, refl, refl, refl, refl)

pub counts : Counts
unfolding sound_rooms
counts = (refl, refl, refl, refl, refl, refl, refl, refl, refl, refl, refl, refl, refl, refl)

pub shown : Shown
unfolding sound_rooms
shown = (refl, refl, refl)

pub mixed-sums : MixedSums
unfolding sound_rooms
mixed-sums = (refl, refl, refl, refl, refl, refl, refl, refl, refl, refl)

pub mixed-counts : MixedCounts
unfolding sound_rooms
mixed-counts = (refl, refl, refl, refl, refl, refl, refl, refl, refl, refl)

pub duplicates_stay : DuplicatesStay
unfolding sound_rooms
duplicates_stay = (refl, refl)

pub plain-streams : PlainStreams
plain-streams = ((refl, refl), λ q. omega (arith, q), (refl, refl), λ q. omega (arith, q), λ q. omega (arith, q), (refl, refl))

-- What the private steps of encoding and decoding answer.
use Rattle.std.specs.Prelude.{ℕ, ◌+◌, ◌≤◌, ◌<◌, ◌≡◌, ◌&&◌, ◌||◌, List, [], ◌∷◌, map, length, drop, get_or, Option, Some, None}
use Rattle.common.specs.Choice.{◌<?◌}
use Rattle.common.specs.Lists.{from, over_at, every}
use Rattle.streamname.specs.Letters.{to_b64_lem}
use Rattle.streamname.specs.Names.{encoded, allowed}
use Rattle.streamname.specs.declared.encoding.Packed.{Packed}
use Rattle.streamname.specs.declared.encoding.Tally.{Tally}
use Rattle.streamname.specs.declared.decoding.Unpacked.{Unpacked}
use Rattle.streamname.specs.declared.decoding.Unpacked.TheVariants.{One, Two}

-- document 02, E4: "a fixed table of 128 entries", for each unit below 128 its number as a letter, and 64, which no letter has, for any other
abbrev pub or_sixty_four : Option ℕ → ℕ
or_sixty_four (Some a) = a
or_sixty_four None = 64

unfoldable pub letter_numbers : List ℕ
letter_numbers = map (λ u. or_sixty_four (to_b64_lem u)) (from 0 128)

-- the packed unit that the name from `at` on begins with, and how many units it takes; two that are packed are letters, and so allowed
pub record Front (name : List ℕ) (at : ℕ) (r : Packed) : Type 0 where
  pub packs : encoded (drop at name) ≡ r.unit ∷ encoded (drop (at + r.used) name)
  pub judged : every allowed (drop at name) ≡ ((1 <? r.used || allowed (get_or name at 0)) && every allowed (drop (at + r.used) name))
  pub within : at + r.used ≤ length name
  pub moves : 0 < r.used

-- what was tallied of a name up to a place, and what is left, make up the whole
pub record Tallied (name : List ℕ) (at : ℕ) (r : Tally) : Type 0 where
  pub fewer : r.units ≤ at
  pub within : at ≤ length name
  pub counted : r.units + length (encoded (drop at name)) ≡ length (encoded name)
  pub judged : (r.allowed && every allowed (drop at name)) ≡ every allowed name

-- the units that a stored unit stands for
abbrev pub units_of : Unpacked → List ℕ
units_of (One a) = a ∷ []
units_of (Two a b) = a ∷ b ∷ []

-- units written over a room from a place on: where they end, and the room afterwards
pub record Put (units : List ℕ) (at : ℕ) (was : List ℕ) (end : ℕ) (out : List ℕ) : Type 0 where
  pub ends : end ≡ at + length units
  pub stands : out ≡ over_at at units was

-- a bound of a length, which is the length itself where it is above a limit
pub record Bound (exact limit bound : ℕ) : Type 0 where
  pub above : exact ≤ bound
  pub past : limit < bound → bound ≡ exact

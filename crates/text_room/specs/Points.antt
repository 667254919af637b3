-- Points: where a replacement and a copy are refused, at each bound and one off and where two refusals meet, and what they leave, computed from
-- the definitions.
use Rattle.std.specs.Prelude.{◌≡◌, List, [], ◌∷◌, ℕ, ◌<◌, length}
use Rattle.common.specs.Sizes.{max_bytes}
use Rattle.common.specs.Answers.{gives, refused, nowhere}
use Rattle.text_room.specs.Texts.{replace_fits_lem, replace_outcome, copy_outcome}

-- 22: the room, and the new text
abbrev pub OverSize : Type 0
OverSize = (replace_fits_lem 268435455 0 0 0 268435455 ≡ gives tt) × (replace_fits_lem 268435456 0 0 0 0 ≡ refused 22 nowhere) × (replace_fits_lem 0 0 0 0 268435456 ≡ refused 22 nowhere)

-- 24: 3 of 5 bytes from 2 on, 4 of them; 5 in use of a room of 5, of 4
abbrev pub NotInUse : Type 0
NotInUse = (replace_fits_lem 5 2 3 5 0 ≡ gives tt) × (replace_fits_lem 5 2 4 5 0 ≡ refused 24 nowhere) × (replace_fits_lem 5 6 0 5 0 ≡ refused 24 nowhere) × (replace_fits_lem 4 2 3 5 0 ≡ refused 24 nowhere)

-- 6: for one of 5 bytes in use of a room of 7, 3 bytes and 4
abbrev pub TextRoom : Type 0
TextRoom = (replace_fits_lem 7 0 1 5 3 ≡ gives tt) × (replace_fits_lem 7 0 1 5 4 ≡ refused 6 nowhere)

-- 22, 24, 6: with the faults of all, and of the last two
abbrev pub InOrder : Type 0
InOrder = (replace_fits_lem 4 2 4 5 268435456 ≡ refused 22 nowhere) × (replace_fits_lem 4 2 4 5 9 ≡ refused 24 nowhere)

-- "leaves bytes .. past the used part as they were, except that .. bytes given up by a shorter total become 0"; a refusal leaves all
abbrev pub Replaced : Type 0
Replaced = (replace_outcome (1 ∷ 2 ∷ 3 ∷ 4 ∷ 7 ∷ []) 0 2 4 (9 ∷ []) ≡ (gives tt, 9 ∷ 3 ∷ 4 ∷ 0 ∷ 7 ∷ []))
    × (replace_outcome (1 ∷ 2 ∷ 3 ∷ 7 ∷ 7 ∷ []) 1 1 3 (8 ∷ 9 ∷ []) ≡ (gives tt, 1 ∷ 8 ∷ 9 ∷ 3 ∷ 7 ∷ []))
    × (replace_outcome (1 ∷ 2 ∷ []) 1 1 2 (8 ∷ 9 ∷ []) ≡ (refused 6 nowhere, 1 ∷ 2 ∷ []))

-- "7 output too small for the whole result"; before it 22
abbrev pub Copied : Type 0
Copied = (copy_outcome (1 ∷ 2 ∷ []) (7 ∷ []) ≡ (refused 7 nowhere, 7 ∷ [])) × (copy_outcome (1 ∷ 2 ∷ []) (7 ∷ 7 ∷ []) ≡ (gives 2, 1 ∷ 2 ∷ []))
    × (copy_outcome (1 ∷ 2 ∷ []) (7 ∷ 7 ∷ 7 ∷ []) ≡ (gives 2, 1 ∷ 2 ∷ 7 ∷ []))
    × ((bytes out : List ℕ) → max_bytes < length bytes → copy_outcome bytes out ≡ (refused 22 nowhere, out))

-- bytes of the size are not 22: without room for them 7
abbrev pub CopySize : Type 0
CopySize = (bytes : List ℕ) → length bytes ≡ 268435455 → copy_outcome bytes [] ≡ (refused 7 nowhere, [])

-- Points: 22, 24 and then the value, for a value that is no text as for one that is; each computed from the definitions.
use Rattle.std.specs.Prelude.{ℕ, ◌≡◌, Bool, true, false, List, [], ◌∷◌, pos, length}
use Rattle.common.specs.Answers.{gives, refused, nowhere}
use Rattle.stringpool.specs.declared.pool.StringPool.{StringPool}
use Rattle.stringpool.specs.Pool.{Rooms, rooms, sound}
use Rattle.stringpool.specs.Take.{Chooser, first_free_or_equal, equal_then_free_lem}
use Rattle.stringpool.specs.Points.{short, k_rooms}
use Rattle.pool_values.specs.Pooled.{create_answer, create_outcome, remove_answer, shown_answer, text_answer}

-- rooms with no text, of a state that is sound or not
abbrev pub OnState : Bool → (StringPool → Rooms → Type 0) → Type 0
OnState is P = (p : StringPool) (lengths counts : List ℕ) → sound p (rooms lengths counts []) ≡ is → P p (rooms lengths counts [])

-- "22 first, then 24": a text of 268,435,456 bytes is 22 whatever the state and the choice, beside a value that is no text (Null) as for a text;
-- so is a text room of that size; a text of one byte less is judged on
abbrev pub SizeFirst : Type 0
SizeFirst =
    ((choose : Chooser) (p : StringPool) (w : Rooms) (new : List ℕ) → length new ≡ 268435456 → create_answer choose 0 (pos 0) new p w ≡ refused 22 nowhere)
    × ((choose : Chooser) (p : StringPool) (w : Rooms) (new : List ℕ) → length new ≡ 268435456 → create_answer choose 2 (pos 0) new p w ≡ refused 22 nowhere)
    × ((choose : Chooser) (p : StringPool) (lengths counts text : List ℕ) → length text ≡ 268435456 → create_answer choose 0 (pos 0) [] p (rooms lengths counts text) ≡ refused 22 nowhere)
    × ((p : StringPool) (lengths counts text : List ℕ) → length text ≡ 268435456 → remove_answer 0 (pos 0) p (rooms lengths counts text) ≡ refused 22 nowhere)
    × ((choose : Chooser) (new : List ℕ) → length new ≡ 268435455 → OnState true (λ p w. create_answer choose 0 (pos 0) new p w ≡ gives (((0, pos 0), p), w)))

-- 24 next, for every value: an unsound state is refused though nothing would be taken, dropped or shown, and before the 8 of a reference of 0;
-- a sound one is left as it is
abbrev pub JudgedToo : Type 0
JudgedToo =
    ((choose : Chooser) → OnState false (λ p w. create_answer choose 1 (pos 7) [] p w ≡ refused 24 nowhere))
    × ((choose : Chooser) → OnState false (λ p w. create_answer choose 2 (pos 0) [] p w ≡ refused 24 nowhere))
    × OnState false (λ p w. remove_answer 1 (pos 7) p w ≡ refused 24 nowhere)
    × OnState false (λ p w. shown_answer 1 (pos 7) p w ≡ refused 24 nowhere)
    × OnState false (λ p w. text_answer 1 (pos 7) p w ≡ refused 24 nowhere)
    × OnState false (λ p w. remove_answer 2 (pos 0) p w ≡ refused 24 nowhere)
    × OnState false (λ p w. shown_answer 2 (pos 0) p w ≡ refused 24 nowhere)
    × OnState false (λ p w. text_answer 2 (pos 0) p w ≡ refused 24 nowhere)
    × ((choose : Chooser) → OnState true (λ p w. create_answer choose 1 (pos 7) [] p w ≡ gives (((1, pos 7), p), w)))
    × OnState true (λ p w. remove_answer 1 (pos 7) p w ≡ gives (p, w))
    × OnState true (λ p w. shown_answer 1 (pos 7) p w ≡ gives (1, pos 7))
    × OnState true (λ p w. text_answer 1 (pos 7) p w ≡ gives [])

-- a text is taken by the choice that is asked for: "" on document 01's pool k is the third by default, which counts up, and the free second by the old choice
abbrev pub CreatedBy : Type 0
CreatedBy =
    (create_outcome equal_then_free_lem 2 (pos 0) [] (short 3) k_rooms ≡ (gives ((2, pos 3), short 3), rooms k_rooms.lengths (2 ∷ 0 ∷ 2 ∷ []) k_rooms.text))
    × (create_outcome first_free_or_equal 2 (pos 0) [] (short 3) k_rooms ≡ (gives ((2, pos 2), short 3), rooms k_rooms.lengths (2 ∷ 1 ∷ 1 ∷ []) k_rooms.text))

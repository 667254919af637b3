-- What a take answers and what it leaves.
use Rattle.std.specs.Prelude.{ℕ, ◌+◌, List, [], ◌∷◌, ◌++◌, length, get_or, set, ℤ, Result}
use Rattle.common.specs.Choice.{when◌then◌else◌, ◌<?◌, ◌≤?◌}
use Rattle.common.specs.Answers.{Answer, gives, refused, nowhere, on_given, outcome}
use Rattle.order.specs.Order.{add_fits_lem, text_fits}
use Rattle.common.specs.Refusals.{answer_as}
use Rattle.common.specs.declared.refusal.Refusal.{Refusal}
pub use Rattle.pool_entries.specs.Choose.{same_bytes, equal, first_place, Chooser, first_free_or_equal, can_count_up_lem, equal_then_free_lem, Legal}
use Rattle.stringpool.specs.Pool.{Entry, entry, Rooms, entries_of, texts, put_back, entry_room_lem, free, on_sound}
use Rattle.stringpool.specs.Refs.{reference_to}
use Rattle.stringpool.specs.declared.pool.StringPool.{StringPool}
use Rattle.stringpool.specs.declared.takes.Taken.{Taken}
use Rattle.common.specs.Sizes.{max_bytes}

-- "An equal one counts up. A free one gets the text and count 1, and any old bytes go."
abbrev pub increased : List ℕ → Entry → Entry
increased t e = when free e then entry t 1 else entry e.text (e.count + 1)

-- "With none, an entry is added."
abbrev pub taken_at_lem : List ℕ → ℕ → List Entry → List Entry
taken_at_lem t k es = when k <? length es then set es k (increased t (get_or es k (entry [] 0))) else es ++ (entry t 1 ∷ [])

-- the same mark and code page, with another entry count
abbrev pub counting : StringPool → ℕ → StringPool
counting p n = record { num_strings = n; long_string_refs = p.long_string_refs; codepage = p.codepage }

-- "Take: 11, 12, 4, 6": the first three where a new entry is wanted; "the chosen entry stays the choice"
abbrev pub take_at : StringPool → Rooms → List ℕ → ℕ → Answer ((ℤ × StringPool) × Rooms)
take_at p w t k =
    let es = entries_of p w in
    let after = taken_at_lem t k es in
    let size = length (texts after) in
    on_given (when length es ≤? k then add_fits_lem p.long_string_refs (length es) (entry_room_lem w) size (length w.text) else text_fits size (length w.text))
    (λ _. gives ((reference_to k, counting p (length after)), put_back p w after))

-- 22 for the text and for the text room, then 24
abbrev pub take_answer : Chooser → StringPool → Rooms → List ℕ → Answer ((ℤ × StringPool) × Rooms)
take_answer choose p w t = when max_bytes <? length t then refused 22 nowhere else on_sound p w (take_at p w t (choose t (entries_of p w)))

abbrev pub take_outcome : Chooser → StringPool → Rooms → List ℕ → Answer (ℤ × StringPool) × Rooms
take_outcome choose p w t = outcome w (take_answer choose p w t)

abbrev pub taken_of : Taken → ℤ × StringPool
taken_of t = (t.reference.0, t.pool)

abbrev pub taken_as : Result Taken Refusal → Answer (ℤ × StringPool)
taken_as taken = answer_as taken_of taken

-- Points: a state at each bound of its soundness and one off, 22 before 24, and which entry a take chooses, computed from the definitions. What
-- is of millions of entries or bytes is a law.
use Rattle.std.specs.Prelude.{◌≡◌, ℕ, ◌<◌, ◌≤◌, Bool, true, false, not, ◌&&◌, ◌||◌, List, [], ◌∷◌, length, take}
use Rattle.common.specs.Lists.{total}
use Rattle.common.specs.Sizes.{max_bytes, max_entries, max_codepage}
use Rattle.common.specs.Answers.{gives, refused, nowhere}
use Rattle.common.specs.Choice.{◌≤?◌}
use Rattle.pool_entries.specs.Entries.{Entry, entry, Rooms, rooms, entry_room_lem, free, all, first_entries}
use Rattle.pool_entries.specs.Sound.{sound_rooms, on_sound_rooms}
use Rattle.pool_entries.specs.Calls.{judge_answer, choose_answer, spot_at}
use Rattle.pool_entries.specs.Choose.{Chooser, equal, first_free_or_equal, can_count_up_lem, equal_then_free_lem}

-- ---- 22, then 24

-- "text room at most 268,435,455 bytes": above it 22, whatever the state, so also an unsound one; at it a sound state is judged so
abbrev pub SizeFirst : Type 0
SizeFirst = ((n codepage : ℕ) (w : Rooms) → max_bytes < length w.text → judge_answer n codepage w ≡ refused 22 nowhere)
    × ((n codepage : ℕ) (w : Rooms) → length w.text ≤ max_bytes → sound_rooms n codepage w ≡ true → judge_answer n codepage w ≡ gives (total (take n w.lengths)))

-- the same for "texts handed in", by any choice
abbrev pub TextFirst : Type 0
TextFirst = (choose : Chooser) (n codepage : ℕ) (w : Rooms) (t : List ℕ) → max_bytes < length t → choose_answer choose n codepage w t ≡ refused 22 nowhere

-- ---- "24 pool state unsound"

-- "entries fit their rooms": two entries in rooms for two lengths and two counts, two and one, one and two
abbrev pub EntriesFit : Type 0
EntriesFit = (sound_rooms 2 0 (rooms (0 ∷ 0 ∷ []) (1 ∷ 1 ∷ []) []) ≡ true) × (sound_rooms 2 0 (rooms (0 ∷ 0 ∷ []) (1 ∷ []) []) ≡ false)
    × (sound_rooms 2 0 (rooms (0 ∷ []) (1 ∷ 1 ∷ []) []) ≡ false)

-- "and number at most 16,777,215": more are unsound in any rooms
abbrev pub TooMany : Type 0
TooMany = (n codepage : ℕ) (w : Rooms) → max_entries < n → sound_rooms n codepage w ≡ false

-- "the code page has 31 bits"
abbrev pub CodePage : Type 0
CodePage = (sound_rooms 0 2147483647 (rooms [] [] []) ≡ true) × (sound_rooms 0 2147483648 (rooms [] [] []) ≡ false)

-- "lengths sum to at most the text room"
abbrev pub LengthsSum : Type 0
LengthsSum = (sound_rooms 2 0 (rooms (1 ∷ 2 ∷ []) (1 ∷ 1 ∷ []) (65 ∷ 66 ∷ 67 ∷ [])) ≡ true) × (sound_rooms 2 0 (rooms (1 ∷ 2 ∷ []) (1 ∷ 1 ∷ []) (65 ∷ 66 ∷ [])) ≡ false)

-- "an entry with count 0 has at most 65,535 bytes": one entry of a length and a count, whose bytes are all there
abbrev pub OneEntry : ℕ → ℕ → Bool → Type 0
OneEntry l c is = (ts : List ℕ) → length ts ≡ l → sound_rooms 1 0 (rooms (l ∷ []) (c ∷ []) ts) ≡ is

abbrev pub FreeBytes : Type 0
FreeBytes = OneEntry 65535 0 true × OneEntry 65536 0 false × OneEntry 65536 1 true

-- ---- the entry that a take chooses

-- "that has the same bytes and a count below 65,535"
abbrev pub CountsUp : Type 0
CountsUp = (equal (65 ∷ []) (entry (65 ∷ []) 65534) ≡ true) × (equal (65 ∷ []) (entry (65 ∷ []) 65535) ≡ false)
    × (equal (65 ∷ []) (entry (66 ∷ []) 1) ≡ false) × (equal (65 ∷ []) (entry (65 ∷ 65 ∷ []) 1) ≡ false)

-- "in entry order, the first entry that is free (count 0) or that has the same bytes": a free one before an equal one, an equal one before a free
-- one; past one of other bytes and one that is full; with none, the place after the last
abbrev pub FirstOfThem : Type 0
FirstOfThem = (first_free_or_equal (65 ∷ []) (entry (66 ∷ []) 1 ∷ entry [] 0 ∷ entry (65 ∷ []) 1 ∷ []) ≡ 1)
    × (first_free_or_equal (65 ∷ []) (entry (66 ∷ []) 1 ∷ entry (65 ∷ []) 1 ∷ entry [] 0 ∷ []) ≡ 1)
    × (first_free_or_equal (65 ∷ []) (entry (65 ∷ []) 65535 ∷ entry (65 ∷ []) 65534 ∷ []) ≡ 1)
    × (first_free_or_equal (65 ∷ []) (entry (66 ∷ []) 0 ∷ []) ≡ 0)
    × (first_free_or_equal (65 ∷ []) (entry (65 ∷ []) 65535 ∷ []) ≡ 1)

-- "an equal entry with a count from 1 to 65,534"
abbrev pub FromOneUp : Type 0
FromOneUp = (can_count_up_lem (65 ∷ []) (entry (65 ∷ []) 0) ≡ false) × (can_count_up_lem (65 ∷ []) (entry (65 ∷ []) 1) ≡ true)
    × (can_count_up_lem (65 ∷ []) (entry (65 ∷ []) 65534) ≡ true) × (can_count_up_lem (65 ∷ []) (entry (65 ∷ []) 65535) ≡ false)
    × (can_count_up_lem (65 ∷ []) (entry (66 ∷ []) 1) ≡ false)

-- "look for an equal entry .. first": the first of two; past a free one, which with the same bytes is no equal one; past one that is full
abbrev pub EqualFirst : Type 0
EqualFirst = (equal_then_free_lem (65 ∷ []) (entry (65 ∷ []) 1 ∷ entry (65 ∷ []) 1 ∷ []) ≡ 0)
    × (equal_then_free_lem (65 ∷ []) (entry [] 0 ∷ entry (65 ∷ []) 1 ∷ []) ≡ 1)
    × (equal_then_free_lem (65 ∷ []) (entry (65 ∷ []) 0 ∷ entry (65 ∷ []) 1 ∷ []) ≡ 1)
    × (equal_then_free_lem (65 ∷ []) (entry (65 ∷ []) 65535 ∷ entry [] 0 ∷ entry (65 ∷ []) 1 ∷ []) ≡ 2)

-- "then the first free one", whatever bytes the free ones hold; "then add"
abbrev pub ThenFreeThenAdd : Type 0
ThenFreeThenAdd = (equal_then_free_lem (65 ∷ []) (entry (65 ∷ []) 65535 ∷ entry [] 0 ∷ []) ≡ 1)
    × (equal_then_free_lem (65 ∷ []) (entry (66 ∷ []) 0 ∷ entry (65 ∷ []) 0 ∷ []) ≡ 0)
    × (equal_then_free_lem (65 ∷ []) (entry (65 ∷ []) 65535 ∷ entry (66 ∷ []) 1 ∷ []) ≡ 2)

-- "number at most 16,777,215": so many are judged by the other conditions alone
abbrev pub AsMany : Type 0
AsMany = (n codepage : ℕ) (w : Rooms) → n ≤ max_entries
    → sound_rooms n codepage w
    ≡ (n ≤? entry_room_lem w && codepage ≤? max_codepage && total (take n w.lengths) ≤? length w.text
    && all (λ (e : Entry). not (free e) || length e.text ≤? 65535) (first_entries n w))

-- "texts handed in, at most 268,435,455 bytes": one of that size is looked for in a sound state
abbrev pub TextAtSize : Type 0
TextAtSize = (choose : Chooser) (n codepage : ℕ) (w : Rooms) (t : List ℕ) → length t ≤ max_bytes
    → choose_answer choose n codepage w t ≡ on_sound_rooms n codepage w (gives (spot_at n w (choose t (first_entries n w))))

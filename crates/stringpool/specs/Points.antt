-- Points: what the calls on a pool answer and leave at their bounds and where two refusals meet, computed from the definitions. What is of more
-- entries than can be written out is a law.
use Rattle.std.specs.Prelude.{◌≡◌, true, false, List, [], ◌∷◌, ℕ, ◌≤◌, ◌<◌, length, ℤ, pos, negsuc}
use Rattle.common.specs.Answers.{gives, refused, nowhere, on_given}
use Rattle.common.specs.Sizes.{max_bytes}
use Rattle.order.specs.Order.{text_fits}
use Rattle.stringpool.specs.Pool.{Rooms, rooms, entries_of, texts, put_back}
use Rattle.stringpool.specs.Refs.{reference_to}
use Rattle.stringpool.specs.Show.{show_answer, refcount_answer}
use Rattle.stringpool.specs.Take.{taken_at_lem, counting, take_at, take_outcome, Chooser, first_free_or_equal, equal_then_free_lem}
use Rattle.stringpool.specs.Drop.{drop_outcome}
use Rattle.stringpool.specs.Load.{load_outcome}
use Rattle.stringpool.specs.Pages.{new_answer, set_page_answer}
use Rattle.stringpool.specs.Write.{pool_bytes, data_bytes, write_outcome}
use Rattle.stringpool.specs.declared.pool.StringPool.{StringPool}

-- a pool of n entries with short references, of code page 0
abbrev pub short : ℕ → StringPool
short n = record { num_strings = n; long_string_refs = false; codepage = 0 }

-- by the old choice and by the default
abbrev pub ByBoth : (Chooser → Type 0) → Type 0
ByBoth P = P first_free_or_equal × P equal_then_free_lem

-- a drop of that number, and a take of that text by that choice, are refused so, and leave the rooms as they were
abbrev pub DropRefused : StringPool → Rooms → ℤ → ℕ → Type 0
DropRefused p w r n = drop_outcome p w r ≡ (refused n nowhere, w)

abbrev pub TakeRefused : Chooser → StringPool → Rooms → List ℕ → ℕ → Type 0
TakeRefused choose p w t n = take_outcome choose p w t ≡ (refused n nowhere, w)

-- a drop leaves these rooms; a take answers that number, and leaves these and a pool of so many entries
abbrev pub Drops : StringPool → Rooms → ℤ → Rooms → Type 0
Drops p w r v = drop_outcome p w r ≡ (gives p, v)

abbrev pub Takes : Chooser → ℕ → Rooms → List ℕ → ℕ → ℕ → Rooms → Type 0
Takes choose n w t r m v = take_outcome choose (short n) w t ≡ (gives (pos r, short m), v)

-- ---- drop

-- "AB" twice and "C" once, then an entry and a byte past the used part
abbrev pub two : Rooms
two = rooms (2 ∷ 1 ∷ 9 ∷ []) (2 ∷ 1 ∷ 0 ∷ []) (65 ∷ 66 ∷ 67 ∷ 7 ∷ [])

-- "Drop: 8, 9, 10": numbers out of range that are past the last entry too, of an empty pool and of one with two entries; one past the last, where
-- the room has a count of 0
abbrev pub DropOrder : Type 0
DropOrder = DropRefused (short 0) two (pos 0) 8 × DropRefused (short 0) two (negsuc 0) 8 × DropRefused (short 0) two (pos 1) 9
    × DropRefused (short 2) two (pos 16777216) 8 × DropRefused (short 2) two (pos 16777215) 9 × DropRefused (short 2) two (pos 3) 9

-- "count down; at 0 the text goes": a count of 2, and of 1, the first or the last; "bytes given up by a shorter total become 0"
abbrev pub CountsDown : Type 0
CountsDown = Drops (short 2) two (pos 1) (rooms (2 ∷ 1 ∷ 9 ∷ []) (1 ∷ 1 ∷ 0 ∷ []) (65 ∷ 66 ∷ 67 ∷ 7 ∷ []))
    × Drops (short 2) two (pos 2) (rooms (2 ∷ 0 ∷ 9 ∷ []) (2 ∷ 0 ∷ 0 ∷ []) (65 ∷ 66 ∷ 0 ∷ 7 ∷ []))
    × Drops (short 2) (rooms (2 ∷ 1 ∷ 9 ∷ []) (1 ∷ 1 ∷ 0 ∷ []) (65 ∷ 66 ∷ 67 ∷ 7 ∷ [])) (pos 1) (rooms (0 ∷ 1 ∷ 9 ∷ []) (0 ∷ 1 ∷ 0 ∷ []) (67 ∷ 0 ∷ 0 ∷ 7 ∷ []))

-- "A loaded free entry may hold bytes; dropping it is 10."
abbrev pub FreeWithBytes : Type 0
FreeWithBytes = DropRefused (short 1) (rooms (3 ∷ []) (0 ∷ []) (88 ∷ 89 ∷ 90 ∷ [])) (pos 1) 10

-- ---- take

-- "A free one gets the text and count 1, and any old bytes go"; "6 exactly if the total after the replacement or addition exceeds the text room":
-- a free "XYZ" and "A" in a room of 5, to get 4 bytes, and 5
abbrev pub free_first : Rooms
free_first = rooms (3 ∷ 1 ∷ []) (0 ∷ 1 ∷ []) (88 ∷ 89 ∷ 90 ∷ 65 ∷ 7 ∷ [])

abbrev pub FreeExactly : Type 0
FreeExactly = ByBoth (λ by. Takes by 2 free_first (1 ∷ 2 ∷ 3 ∷ 4 ∷ []) 1 2 (rooms (4 ∷ 1 ∷ []) (1 ∷ 1 ∷ []) (1 ∷ 2 ∷ 3 ∷ 4 ∷ 65 ∷ []))
    × TakeRefused by (short 2) free_first (1 ∷ 2 ∷ 3 ∷ 4 ∷ 5 ∷ []) 6)

-- a free entry and "AB", which has the count c, in a text room of 2
abbrev pub text_full : ℕ → Rooms
text_full c = rooms (0 ∷ 2 ∷ []) (0 ∷ c ∷ []) (65 ∷ 66 ∷ [])

-- "the chosen entry stays the choice, even where a later one is equal": by the old choice of "AB" there; and by both a free one, then "A" in a room of 1, to
-- get "BC"
abbrev pub ChoiceStays : Type 0
ChoiceStays = TakeRefused first_free_or_equal (short 2) (text_full 1) (65 ∷ 66 ∷ []) 6
    × ByBoth (λ by. TakeRefused by (short 2) (rooms (0 ∷ 1 ∷ []) (0 ∷ 1 ∷ []) (65 ∷ [])) (66 ∷ 67 ∷ []) 6)

-- "look for an equal entry with a count from 1 to 65,534 first": a take of "" on document 01's pool k, "Name" twice, a free one and "" once, counts up the
-- third, where the old choice fills the second
abbrev pub k_rooms : Rooms
k_rooms = rooms (4 ∷ 0 ∷ 0 ∷ []) (2 ∷ 0 ∷ 1 ∷ []) (78 ∷ 97 ∷ 109 ∷ 101 ∷ [])

abbrev pub CountsUpThere : Type 0
CountsUpThere = Takes equal_then_free_lem 3 k_rooms [] 3 3 (rooms (4 ∷ 0 ∷ 0 ∷ []) (2 ∷ 0 ∷ 2 ∷ []) (78 ∷ 97 ∷ 109 ∷ 101 ∷ []))
    × Takes first_free_or_equal 3 k_rooms [] 2 3 (rooms (4 ∷ 0 ∷ 0 ∷ []) (2 ∷ 1 ∷ 1 ∷ []) (78 ∷ 97 ∷ 109 ∷ 101 ∷ []))

-- "under the default, 6, 11, 12 and 4 are not given while an equal entry can count up": "AB" in a text room of 2 counts up, to 65,535; then none can, and the
-- free one is chosen, 6
-- "A" 65,535 times and "A" again, in rooms that are used exactly: the second counts up to 65,535, and then an entry is wanted, 4
abbrev pub entries_full : ℕ → Rooms
entries_full c = rooms (1 ∷ 1 ∷ []) (65535 ∷ c ∷ []) (65 ∷ 65 ∷ [])

abbrev pub NeedsNoRoom : Type 0
NeedsNoRoom = Takes equal_then_free_lem 2 (text_full 1) (65 ∷ 66 ∷ []) 2 2 (text_full 2)
    × Takes equal_then_free_lem 2 (text_full 65534) (65 ∷ 66 ∷ []) 2 2 (text_full 65535) × TakeRefused equal_then_free_lem (short 2) (text_full 65535) (65 ∷ 66 ∷ []) 6
    × Takes equal_then_free_lem 2 (entries_full 65534) (65 ∷ []) 2 2 (entries_full 65535) × TakeRefused equal_then_free_lem (short 2) (entries_full 65535) (65 ∷ []) 4

-- "the same bytes and a count below 65,535": 65,534 counts up, and beside 65,535 an entry is added; its 6 at the room of one byte
abbrev pub CountFull : Type 0
CountFull = ByBoth (λ by. Takes by 1 (rooms (1 ∷ 9 ∷ []) (65534 ∷ 8 ∷ []) (65 ∷ 7 ∷ [])) (65 ∷ []) 1 1 (rooms (1 ∷ 9 ∷ []) (65535 ∷ 8 ∷ []) (65 ∷ 7 ∷ []))
    × Takes by 1 (rooms (1 ∷ 9 ∷ []) (65535 ∷ 8 ∷ []) (65 ∷ 7 ∷ [])) (65 ∷ []) 2 2 (rooms (1 ∷ 1 ∷ []) (65535 ∷ 1 ∷ []) (65 ∷ 65 ∷ []))
    × TakeRefused by (short 1) (rooms (1 ∷ 9 ∷ []) (65535 ∷ 8 ∷ []) (65 ∷ [])) (65 ∷ []) 6)

-- "4 more entries than the lent entry room holds", "the shorter of the lent lengths and counts": "A", and a second entry in rooms for two and one, one
-- and two, two and two
abbrev pub EntryRoom : Type 0
EntryRoom = ByBoth (λ by. TakeRefused by (short 1) (rooms (1 ∷ 9 ∷ []) (1 ∷ []) (65 ∷ 7 ∷ [])) (66 ∷ []) 4
    × TakeRefused by (short 1) (rooms (1 ∷ []) (1 ∷ 8 ∷ []) (65 ∷ 7 ∷ [])) (66 ∷ []) 4
    × Takes by 1 (rooms (1 ∷ 9 ∷ []) (1 ∷ 8 ∷ []) (65 ∷ 7 ∷ [])) (66 ∷ []) 2 2 (rooms (1 ∷ 1 ∷ []) (1 ∷ 1 ∷ []) (65 ∷ 66 ∷ [])))

-- "Take: 11, 12, 4, 6": where a new entry is wanted, 11 and 12 whatever the rooms, so also without room for it or its text
abbrev pub FullFirst : Type 0
FullFirst = ((p : StringPool) (w : Rooms) (t : List ℕ) → p.long_string_refs ≡ false → 65535 ≤ length (entries_of p w) → take_at p w t (length (entries_of p w)) ≡ refused 11 nowhere)
    × ((p : StringPool) (w : Rooms) (t : List ℕ) → p.long_string_refs ≡ true → 16777215 ≤ length (entries_of p w) → take_at p w t (length (entries_of p w)) ≡ refused 12 nowhere)

-- "A take may then answer a free number above 65,535": where an entry is chosen, at whatever place, nothing but 6 is refused
abbrev pub NothingButSix : Type 0
NothingButSix = (p : StringPool) (w : Rooms) (t : List ℕ) (k : ℕ) → k < length (entries_of p w)
    → take_at p w t k
    ≡ on_given (text_fits (length (texts (taken_at_lem t k (entries_of p w)))) (length w.text))
    (λ _. gives ((reference_to k, counting p (length (taken_at_lem t k (entries_of p w)))), put_back p w (taken_at_lem t k (entries_of p w))))

-- ---- "Order: 22 first, then 24": two entries in rooms for one length

abbrev pub unsound : Rooms
unsound = rooms (1 ∷ []) (1 ∷ 1 ∷ []) (65 ∷ [])

-- before 8
abbrev pub UnsoundFirst : Type 0
UnsoundFirst = (show_answer (short 2) unsound (pos 0) ≡ refused 24 nowhere) × (refcount_answer (short 2) unsound (pos 0) ≡ refused 24 nowhere) × DropRefused (short 2) unsound (pos 0) 24

-- before 21, and before 7, whose output keeps its byte
abbrev pub UnsoundThen : Type 0
UnsoundThen = (set_page_answer (short 2) unsound 4294967295 ≡ refused 24 nowhere)
    × (write_outcome (short 2) unsound (pool_bytes (short 2) unsound) (7 ∷ []) ≡ (refused 24 nowhere, 7 ∷ []))
    × (write_outcome (short 2) unsound (data_bytes (short 2) unsound) [] ≡ (refused 24 nowhere, []))

-- before 4 and 6 of a take, by whatever choice
abbrev pub UnsoundTake : Type 0
UnsoundTake = (choose : Chooser) → TakeRefused choose (short 2) unsound (66 ∷ []) 24

-- ---- new, page, load, write

-- "Making an empty (short) pool or setting the code page: 21."
abbrev pub CodePage : Type 0
CodePage = (new_answer 2147483647 ≡ gives (record { num_strings = 0; long_string_refs = false; codepage = 2147483647 })) × (new_answer 2147483648 ≡ refused 21 nowhere)
    × (set_page_answer (short 2) two 2147483647 ≡ gives (record { num_strings = 2; long_string_refs = false; codepage = 2147483647 }))
    × (set_page_answer (short 2) two 2147483648 ≡ refused 21 nowhere)

-- "bit 31 says long references (3 bytes), the rest is the code page"
abbrev pub Marked : Type 0
Marked = (load_outcome (255 ∷ 255 ∷ 255 ∷ 255 ∷ []) [] two ≡ (gives (record { num_strings = 0; long_string_refs = true; codepage = 2147483647 }), two))
    × (load_outcome (255 ∷ 255 ∷ 255 ∷ 127 ∷ []) [] two ≡ (gives (record { num_strings = 0; long_string_refs = false; codepage = 2147483647 }), two))

-- "7 output too small for the whole result": a pool stream of 4 bytes to 3, and to 5; a data stream of 3 bytes to 2
abbrev pub OutputRoom : Type 0
OutputRoom = (write_outcome (short 0) two (pool_bytes (short 0) two) (7 ∷ 7 ∷ 7 ∷ []) ≡ (refused 7 nowhere, 7 ∷ 7 ∷ 7 ∷ []))
    × (write_outcome (short 0) two (pool_bytes (short 0) two) (7 ∷ 7 ∷ 7 ∷ 7 ∷ 7 ∷ []) ≡ (gives 4, 0 ∷ 0 ∷ 0 ∷ 0 ∷ 7 ∷ []))
    × (write_outcome (short 2) two (data_bytes (short 2) two) (7 ∷ 7 ∷ []) ≡ (refused 7 nowhere, 7 ∷ 7 ∷ []))
    × (write_outcome (short 2) two (data_bytes (short 2) two) (7 ∷ 7 ∷ 7 ∷ []) ≡ (gives 3, 65 ∷ 66 ∷ 67 ∷ []))

-- ---- load, show, and the sizes

abbrev pub LoadRefused : List ℕ → List ℕ → Rooms → ℕ → Type 0
LoadRefused s d w n = load_outcome s d w ≡ (refused n nowhere, w)

-- a pool stream of one entry of two bytes
abbrev pub one_of_two : List ℕ
one_of_two = 0 ∷ 0 ∷ 0 ∷ 0 ∷ 2 ∷ 0 ∷ 1 ∷ 0 ∷ []

-- "Load: 1, 2, 3, 4, 5, 6": 1 also of an empty stream, whose reading would be 2; then each fault beside all later ones where it can be, either room
-- too short, and the entry loaded where all suffices
abbrev pub LoadInOrder : Type 0
LoadInOrder = LoadRefused (0 ∷ 0 ∷ 0 ∷ []) [] (rooms [] [] []) 1 × LoadRefused [] [] (rooms [] [] []) 1
    × LoadRefused (0 ∷ 0 ∷ 0 ∷ 0 ∷ 2 ∷ 0 ∷ 1 ∷ 0 ∷ 9 ∷ 9 ∷ []) [] (rooms [] [] []) 2
    × LoadRefused one_of_two [] (rooms (9 ∷ []) [] []) 4 × LoadRefused one_of_two [] (rooms [] (8 ∷ []) []) 4
    × LoadRefused one_of_two (65 ∷ []) (rooms (9 ∷ []) (8 ∷ []) (7 ∷ [])) 5 × LoadRefused one_of_two (65 ∷ []) (rooms (9 ∷ []) (8 ∷ []) (7 ∷ 7 ∷ [])) 5
    × LoadRefused one_of_two (65 ∷ 66 ∷ []) (rooms (9 ∷ []) (8 ∷ []) (7 ∷ [])) 6
    × (load_outcome one_of_two (65 ∷ 66 ∷ 67 ∷ []) (rooms (9 ∷ 9 ∷ []) (8 ∷ []) (7 ∷ 7 ∷ 7 ∷ [])) ≡ (gives (short 1), rooms (2 ∷ 9 ∷ []) (1 ∷ []) (65 ∷ 66 ∷ 7 ∷ [])))

-- "Show: 8, else the entry's bytes as a part of the lent text room; past the last entry, the empty part", "Its count likewise, 0 past the end": a count that
-- the room holds past the end is not looked at
abbrev pub Showing : Type 0
Showing = (show_answer (short 2) two (pos 0) ≡ refused 8 nowhere) × (show_answer (short 2) two (pos 1) ≡ gives (65 ∷ 66 ∷ [])) × (show_answer (short 2) two (pos 2) ≡ gives (67 ∷ []))
    × (show_answer (short 2) two (pos 3) ≡ gives []) × (show_answer (short 2) two (pos 16777215) ≡ gives []) × (show_answer (short 2) two (pos 16777216) ≡ refused 8 nowhere)
    × (refcount_answer (short 2) two (pos 0) ≡ refused 8 nowhere) × (refcount_answer (short 2) two (pos 1) ≡ gives 2) × (refcount_answer (short 1) two (pos 2) ≡ gives 0)
    × (refcount_answer (short 2) two (pos 16777216) ≡ refused 8 nowhere)

-- "texts handed in, at most 268,435,455 bytes": one of that size comes to 4, one byte more is 22, in an unsound state too
abbrev pub TakeSize : Type 0
TakeSize = ByBoth (λ by. (t : List ℕ) → length t ≡ 268435455 → TakeRefused by (short 0) (rooms [] [] []) t 4)
    × ((choose : Chooser) (t : List ℕ) → length t ≡ 268435456 → TakeRefused choose (short 0) (rooms [] [] []) t 22 × TakeRefused choose (short 2) unsound t 22)

-- "22 first": of a text room above the size, whatever else is wrong
abbrev pub RoomSize : Type 0
RoomSize = (p : StringPool) (w : Rooms) → max_bytes < length w.text
    → ((r : ℤ) → (show_answer p w r ≡ refused 22 nowhere) × (refcount_answer p w r ≡ refused 22 nowhere) × DropRefused p w r 22)
    × ((page : ℕ) → set_page_answer p w page ≡ refused 22 nowhere)
    × ((bytes out : List ℕ) → write_outcome p w bytes out ≡ (refused 22 nowhere, out))

-- "Take: 11, 12, 4, 6": no place and no room for a text of one byte: 4
abbrev pub RoomBefore6 : Type 0
RoomBefore6 = ByBoth (λ by. TakeRefused by (short 1) (rooms (1 ∷ []) (1 ∷ []) (65 ∷ [])) (66 ∷ []) 4)

-- Points: what demand 3 counts, on pool k of document 01, by the old choice and by both mixed; which streams are written back
-- identically. Computed from the definitions.
use Rattle.std.specs.Prelude.{◌≡◌, true, false, List, [], ◌∷◌, map, ℕ, pos}
use Rattle.stringpool.specs.Pool.{rooms}
use Rattle.stringpool.specs.Take.{can_count_up_lem, counting}
use Rattle.stringpool_promises.specs.Promises.{State, Call, takes, takes_first, drops, as_call, ran, entries, shows, count, tally, sum_for, took, gave_up, took_ref, gave_up_ref, Plain}

-- "Name" twice, free, "" once
abbrev pub k : State
k = record { pool = record { num_strings = 3; long_string_refs = false; codepage = 1252 }; rooms = rooms (4 ∷ 0 ∷ 0 ∷ []) (2 ∷ 0 ∷ 1 ∷ []) (78 ∷ 97 ∷ 109 ∷ 101 ∷ 7 ∷ []) }

abbrev pub name : List ℕ
name = 78 ∷ 97 ∷ 109 ∷ 101 ∷ []

-- by the old choice a take of "", which answers 2, and of "Name", which answers 1; drops of 1 and of 3; a take of two bytes in a room that has one left
-- (6); a drop of 9 (9)
abbrev pub calls : List Call
calls = map as_call (takes_first [] ∷ takes_first name ∷ drops (pos 1) ∷ drops (pos 3) ∷ takes_first (1 ∷ 2 ∷ []) ∷ drops (pos 9) ∷ [])

-- "For each text, the counts of the entries showing it sum to that sum at the start, plus accepted takes of it, minus accepted drops of references that
-- showed it just before": for "Name" 2 + 1 - 1, for "" 1 + 1 - 1, for the refused text nothing
abbrev pub Sums : Type 0
Sums = (sum_for name (entries k) ≡ 2) × (tally (took name) k calls ≡ 1) × (tally (gave_up name) k calls ≡ 1) × (sum_for name (entries (ran k calls)) ≡ 2)
    × (sum_for [] (entries k) ≡ 1) × (tally (took []) k calls ≡ 1) × (tally (gave_up []) k calls ≡ 1) × (sum_for [] (entries (ran k calls)) ≡ 1)
    × (tally (took (1 ∷ 2 ∷ [])) k calls ≡ 0) × (sum_for (1 ∷ 2 ∷ []) (entries (ran k calls)) ≡ 0)

-- "Each reference's count equals its starting count (0 if new) plus takes that answered it, minus accepted drops of it": 1 has 2 + 1 - 1, 2 has 0 + 1,
-- 3 has 1 - 1, and 9 nothing, since its drop is refused
abbrev pub Counts : Type 0
Counts = (count k (pos 1) ≡ 2) × (tally (took_ref (pos 1)) k calls ≡ 1) × (tally (gave_up_ref (pos 1)) k calls ≡ 1) × (count (ran k calls) (pos 1) ≡ 2)
    × (count k (pos 2) ≡ 0) × (tally (took_ref (pos 2)) k calls ≡ 1) × (tally (gave_up_ref (pos 2)) k calls ≡ 0) × (count (ran k calls) (pos 2) ≡ 1)
    × (count k (pos 3) ≡ 1) × (tally (took_ref (pos 3)) k calls ≡ 0) × (tally (gave_up_ref (pos 3)) k calls ≡ 1) × (count (ran k calls) (pos 3) ≡ 0)
    × (tally (gave_up_ref (pos 9)) k calls ≡ 0) × (count (ran k calls) (pos 9) ≡ 0)

-- "while that stays at least 1, it shows the same bytes": 1 shows "Name"; given up and taken again, it shows another text
abbrev pub Shown : Type 0
Shown = (shows k (pos 1) ≡ name) × (shows (ran k calls) (pos 1) ≡ name)
    × (shows (ran k (map as_call (drops (pos 1) ∷ drops (pos 1) ∷ takes_first (90 ∷ []) ∷ []))) (pos 1) ≡ 90 ∷ [])

-- ---- document 02: the default take, and both mixed

-- "" by the default (3), by the old choice (2), by the default again (2, now the first equal one); drops of 3 until it is free; "Name" by the old choice
-- (1); by the default two bytes that do not fit the free entry (6), and one that does (3)
abbrev pub mixed : List Call
mixed = map as_call (takes [] ∷ takes_first [] ∷ takes [] ∷ drops (pos 3) ∷ drops (pos 3) ∷ takes_first name ∷ takes (1 ∷ 2 ∷ []) ∷ takes (90 ∷ []) ∷ [])

-- "Demand 3 holds for any mixture of the two": the sums, for "" 1 + 3 - 2, for "Name" 2 + 1, for the refused text nothing, for "Z" 1
abbrev pub MixedSums : Type 0
MixedSums = (tally (took []) k mixed ≡ 3) × (tally (gave_up []) k mixed ≡ 2) × (sum_for [] (entries (ran k mixed)) ≡ 2)
    × (tally (took name) k mixed ≡ 1) × (tally (gave_up name) k mixed ≡ 0) × (sum_for name (entries (ran k mixed)) ≡ 3)
    × (tally (took (1 ∷ 2 ∷ [])) k mixed ≡ 0) × (sum_for (1 ∷ 2 ∷ []) (entries (ran k mixed)) ≡ 0)
    × (tally (took (90 ∷ [])) k mixed ≡ 1) × (sum_for (90 ∷ []) (entries (ran k mixed)) ≡ 1)

-- the counts: 1 has 2 + 1, 2 has 0 + 2, 3 has 1 + 2 - 2, and shows "Z"
abbrev pub MixedCounts : Type 0
MixedCounts = (tally (took_ref (pos 1)) k mixed ≡ 1) × (tally (gave_up_ref (pos 1)) k mixed ≡ 0) × (count (ran k mixed) (pos 1) ≡ 3)
    × (tally (took_ref (pos 2)) k mixed ≡ 2) × (tally (gave_up_ref (pos 2)) k mixed ≡ 0) × (count (ran k mixed) (pos 2) ≡ 2)
    × (tally (took_ref (pos 3)) k mixed ≡ 2) × (tally (gave_up_ref (pos 3)) k mixed ≡ 2) × (count (ran k mixed) (pos 3) ≡ 1)
    × (shows (ran k mixed) (pos 3) ≡ 90 ∷ [])

-- not promised: that a text stands once. "A" 65,534 times, two takes by the default and a drop of 1: two entries that can count up
abbrev pub nearly_full : State
nearly_full = record { pool = counting k.pool 1; rooms = rooms (1 ∷ 9 ∷ []) (65534 ∷ 8 ∷ []) (65 ∷ 7 ∷ []) }

abbrev pub DuplicatesStay : Type 0
DuplicatesStay = (map (can_count_up_lem (65 ∷ [])) (entries nearly_full) ≡ true ∷ [])
    × (map (can_count_up_lem (65 ∷ [])) (entries (ran nearly_full (map as_call (takes (65 ∷ []) ∷ takes (65 ∷ []) ∷ drops (pos 1) ∷ [])))) ≡ true ∷ true ∷ [])

-- ---- what is written back

-- "no stray byte and no 4-byte length from 1 to 65,535": after the mark nothing, a byte, and 4-byte lengths of 0, 1, 65,535 and 65,536
abbrev pub NotPlain : List ℕ → Type 0
NotPlain s = Plain s → ⊥

abbrev pub PlainStreams : Type 0
PlainStreams = Plain (0 ∷ 0 ∷ 0 ∷ 0 ∷ []) × NotPlain (0 ∷ 0 ∷ 0 ∷ 0 ∷ 9 ∷ [])
    × Plain (0 ∷ 0 ∷ 0 ∷ 0 ∷ 0 ∷ 0 ∷ 1 ∷ 0 ∷ 0 ∷ 0 ∷ 0 ∷ 0 ∷ []) × NotPlain (0 ∷ 0 ∷ 0 ∷ 0 ∷ 0 ∷ 0 ∷ 1 ∷ 0 ∷ 1 ∷ 0 ∷ 0 ∷ 0 ∷ [])
    × NotPlain (0 ∷ 0 ∷ 0 ∷ 0 ∷ 0 ∷ 0 ∷ 1 ∷ 0 ∷ 255 ∷ 255 ∷ 0 ∷ 0 ∷ []) × Plain (0 ∷ 0 ∷ 0 ∷ 0 ∷ 0 ∷ 0 ∷ 1 ∷ 0 ∷ 0 ∷ 0 ∷ 1 ∷ 0 ∷ [])

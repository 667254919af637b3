-- Points: pool streams that end at and beside each bound, 2 before the refusals by sizes, and what is read and written of lengths at 65,535,
-- computed from the definitions.
use Rattle.std.specs.Prelude.{◌≡◌, true, false, List, [], ◌∷◌, ℕ, length}
use Rattle.common.specs.Answers.{Answer, gives, refused, nowhere}
use Rattle.order.specs.Order.{streams_fit_lem}
use Rattle.pool_stream.specs.Entries.{pool_entries_lem, entry_in, one, entry_bytes, mark_of}
use Rattle.pool_stream.specs.Plan.{load_plan}

-- what a pool stream of code page 0 has after its first four bytes
abbrev pub after : List ℕ → Answer (List ℕ × List ℕ)
after s = pool_entries_lem (0 ∷ 0 ∷ 0 ∷ 0 ∷ s)

-- "With 0 or 1 byte left at an entry's start, reading ends and that byte is ignored. With 2 or 3 left: 2."
abbrev pub BytesLeft : Type 0
BytesLeft = (after [] ≡ gives ([], [])) × (after (5 ∷ []) ≡ gives ([], [])) × (after (5 ∷ 0 ∷ []) ≡ refused 2 nowhere) × (after (5 ∷ 0 ∷ 7 ∷ []) ≡ refused 2 nowhere)
    × (after (5 ∷ 0 ∷ 7 ∷ 0 ∷ []) ≡ gives (5 ∷ [], 7 ∷ [])) × (after (5 ∷ 0 ∷ 7 ∷ 0 ∷ 9 ∷ []) ≡ gives (5 ∷ [], 7 ∷ []))
    × (after (5 ∷ 0 ∷ 7 ∷ 0 ∷ 9 ∷ 9 ∷ []) ≡ refused 2 nowhere)

-- "where length is 0 and count above 0 a 4-byte length"; "Fewer than four for the long length: 2."
abbrev pub LongLength : Type 0
LongLength = (after (0 ∷ 0 ∷ 1 ∷ 0 ∷ []) ≡ refused 2 nowhere) × (after (0 ∷ 0 ∷ 1 ∷ 0 ∷ 0 ∷ 0 ∷ 1 ∷ []) ≡ refused 2 nowhere)
    × (after (0 ∷ 0 ∷ 1 ∷ 0 ∷ 0 ∷ 0 ∷ 1 ∷ 0 ∷ []) ≡ gives (65536 ∷ [], 1 ∷ [])) × (after (0 ∷ 0 ∷ 0 ∷ 0 ∷ []) ≡ gives (0 ∷ [], 0 ∷ []))

-- the slip "Treating the 4-byte length as always above 65,535": 0, 1 and 65,535 are read as they are, and a length of 0 is written so
abbrev pub ShortLong : Type 0
ShortLong = (entry_in (0 ∷ 0 ∷ 1 ∷ 0 ∷ 0 ∷ 0 ∷ 0 ∷ 0 ∷ []) ≡ one 0 1 true 8) × (entry_in (0 ∷ 0 ∷ 1 ∷ 0 ∷ 1 ∷ 0 ∷ 0 ∷ 0 ∷ []) ≡ one 1 1 true 8)
    × (entry_in (0 ∷ 0 ∷ 1 ∷ 0 ∷ 255 ∷ 255 ∷ 0 ∷ 0 ∷ []) ≡ one 65535 1 true 8) × (entry_bytes 0 1 ≡ 0 ∷ 0 ∷ 1 ∷ 0 ∷ 0 ∷ 0 ∷ 0 ∷ 0 ∷ [])

-- "Writing puts the length if at most 65,535, else 0; then the count; then, if the two bytes were 0 and the count is above 0, the 4-byte length."
abbrev pub Written : Type 0
Written = (entry_bytes 65535 1 ≡ 255 ∷ 255 ∷ 1 ∷ 0 ∷ []) × (entry_bytes 65536 1 ≡ 0 ∷ 0 ∷ 1 ∷ 0 ∷ 0 ∷ 0 ∷ 1 ∷ 0 ∷ [])
    × (entry_bytes 0 0 ≡ 0 ∷ 0 ∷ 0 ∷ 0 ∷ []) × (entry_bytes 65535 0 ≡ 255 ∷ 255 ∷ 0 ∷ 0 ∷ []) × (entry_bytes 1 65535 ≡ 1 ∷ 0 ∷ 255 ∷ 255 ∷ [])

-- "bit 31 says long references (3 bytes), the rest is the code page"
abbrev pub Marks : Type 0
Marks = (mark_of false 2147483647 ≡ 2147483647) × (mark_of true 0 ≡ 2147483648) × (mark_of true 2147483647 ≡ 4294967295)

-- "Load: 1, 2, 3, 4, 5, 6": a cut entry is 2 whatever the number and the lengths of the entries before it; so of two entries of 5 bytes and 2 bytes
-- more in a room for one, with no data and no text room; without those 2 bytes it is 4
abbrev pub CutFirst : Type 0
CutFirst = ((s : List ℕ) (entries stream text : ℕ) → streams_fit_lem (length s) stream text ≡ gives tt → pool_entries_lem s ≡ refused 2 nowhere
    → load_plan s entries stream text ≡ refused 2 nowhere)
    × (load_plan (0 ∷ 0 ∷ 0 ∷ 0 ∷ 5 ∷ 0 ∷ 1 ∷ 0 ∷ 5 ∷ 0 ∷ 1 ∷ 0 ∷ 9 ∷ 9 ∷ []) 1 0 0 ≡ refused 2 nowhere)
    × (load_plan (0 ∷ 0 ∷ 0 ∷ 0 ∷ 5 ∷ 0 ∷ 1 ∷ 0 ∷ 5 ∷ 0 ∷ 1 ∷ 0 ∷ []) 1 0 0 ≡ refused 4 nowhere)

-- A pool stream and its entries, read and written.
use Rattle.std.specs.Prelude.{ℕ, zero, suc, ◌+◌, Bool, true, false, ◌&&◌, List, [], ◌∷◌, ◌++◌, map, length, drop}
use Rattle.common.specs.Choice.{when◌then◌else◌, ◌<?◌, ◌≤?◌, ◌=?◌}
use Rattle.common.specs.Lists.{joined}
use Rattle.common.specs.Answers.{Answer, gives, refused, nowhere, on_given}
use Rattle.little_endian.specs.Numbers.{number_at, bytes_of}
use Rattle.pool_entries.specs.Entries.{Entry, Rooms, first_entries}

-- what stands at the front of the bytes that are left of a pool stream: an entry's length, its count, whether the length
-- took the 4-byte form, and how many bytes the entry takes; a cut entry; or the end with its stray bytes
pub data Found : Type 0 where
  one : ℕ → ℕ → Bool → ℕ → Found
  cut : Found
  ends : ℕ → Found

-- "Then entries: length (2), count (2), and where length is 0 and count above 0 a 4-byte length. With 0 or 1 byte left at an
-- entry's start, reading ends and that byte is ignored. With 2 or 3 left: 2. Fewer than four for the long length: 2."
abbrev pub entry_in : List ℕ → Found
entry_in s =
    let size = number_at 2 s 0 in
    let count = number_at 2 s 2 in
    when length s <? 2 then ends (length s)
    else when length s <? 4 then cut
    else when size =? 0 && 0 <? count then (when length s <? 8 then cut else one (number_at 4 s 4) count true 8)
    else one size count false 4

abbrev pub with_entry : ℕ → ℕ → Answer (List ℕ × List ℕ) → Answer (List ℕ × List ℕ)
with_entry l c entries = on_given entries (λ x. gives (l ∷ x.0, c ∷ x.1))

abbrev pub on_found : Found → (ℕ → Answer (List ℕ × List ℕ)) → Answer (List ℕ × List ℕ)
on_found (one l c wide size) more = with_entry l c (more size)
on_found cut more = refused 2 nowhere
on_found (ends stray) more = gives ([], [])

-- the lengths and the counts of the entries in the bytes that are left; as many steps as bytes suffice (Promises)
abbrev pub entries_in : ℕ → List ℕ → Answer (List ℕ × List ℕ)
entries_in zero s = refused 2 nowhere
entries_in (suc steps) s = on_found (entry_in s) (λ size. entries_in steps (drop size s))

-- those of a pool stream, after its first four bytes
abbrev pub pool_entries_lem : List ℕ → Answer (List ℕ × List ℕ)
pool_entries_lem s = entries_in (length s) (drop 4 s)

-- "Writing puts the length if at most 65,535, else 0;"
abbrev pub short_of : ℕ → ℕ
short_of size = when size ≤? 65535 then size else 0

-- "then the count; then, if the two bytes were 0 and the count is above 0, the 4-byte length."
abbrev pub wide : ℕ → ℕ → Bool
wide size count = short_of size =? 0 && 0 <? count

unfoldable pub entry_bytes : ℕ → ℕ → List ℕ
entry_bytes size count = bytes_of 2 (short_of size) ++ bytes_of 2 count ++ (when wide size count then bytes_of 4 size else [])

-- "Four bytes: bit 31 says long references (3 bytes), the rest is the code page."
abbrev pub mark_of : Bool → ℕ → ℕ
mark_of long codepage = codepage + (when long then 2147483648 else 0)

-- the mark, "then entries"
abbrev pub stream_bytes : ℕ → Bool → ℕ → Rooms → List ℕ
stream_bytes n long codepage w = bytes_of 4 (mark_of long codepage) ++ joined (map (λ (e : Entry). entry_bytes (length e.text) e.count) (first_entries n w))

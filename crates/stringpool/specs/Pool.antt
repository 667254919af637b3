-- The state of a pool: its entries, cut out of the lent rooms and put back; and when it is sound.
use Rattle.std.specs.Prelude.{ℕ, ◌-◌, Bool, List, ◌++◌, map, length, take, replicate}
use Rattle.common.specs.Lists.{◌over◌, joined, total}
use Rattle.common.specs.Answers.{Answer}
use Rattle.stringpool.specs.declared.pool.StringPool.{StringPool}
use Rattle.pool_entries.specs.Entries as entries
use Rattle.pool_entries.specs.Sound as state
pub use Rattle.pool_entries.specs.Entries.{Entry, entry, Rooms, rooms, cut, entry_room_lem, free, all}
pub use Rattle.pool_entries.specs.Rooms.{rooms_of, rooms_held, SameRooms}

-- "The state is the entry count, mark and code page with lent lengths, counts and text": its entries
abbrev pub entries_of : StringPool → Rooms → List Entry
entries_of p w = entries.first_entries p.num_strings w

abbrev pub texts : List Entry → List ℕ
texts es = joined (map (λ (e : Entry). e.text) es)

-- "leaves bytes and entries past the used part as they were, except that .. bytes given up by a shorter total become 0"
abbrev pub put_back : StringPool → Rooms → List Entry → Rooms
put_back p w es =
    let used = total (take p.num_strings w.lengths) in
    rooms (map (λ (e : Entry). length e.text) es over w.lengths) (map (λ (e : Entry). e.count) es over w.counts)
    ((texts es ++ replicate (used - length (texts es)) 0) over w.text)

-- "A state is sound when .."
abbrev pub sound : StringPool → Rooms → Bool
sound p w = state.sound_rooms p.num_strings p.codepage w

-- "Order: 22 first, then 24."
abbrev pub on_sound : {A : Type 0} → StringPool → Rooms → Answer A → Answer A
on_sound p w a = state.on_sound_rooms p.num_strings p.codepage w a

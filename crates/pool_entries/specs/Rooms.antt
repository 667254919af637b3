-- The lent rooms as the code hands them on, in the definitions' terms.
use Rattle.std.specs.Prelude.{◌≡◌}
use Rattle.pool_entries.specs.Entries.{rooms}
use Rattle.pool_entries.specs.Entries.{Rooms as Held}
use Rattle.pool_entries.specs.declared.rooms.Rooms.{Rooms}
use Rattle.pool_entries.specs.declared.rooms.RoomsMut.{RoomsMut}

-- what rooms that are read hold
abbrev pub rooms_of : Rooms → Held
rooms_of r = rooms r.lengths.now r.counts.now r.text.now

-- what rooms that may be changed hold
abbrev pub rooms_held : RoomsMut → Held
rooms_held r = rooms r.lengths.now r.counts.now r.text.now

-- they are the same memory
abbrev pub SameRooms : RoomsMut → RoomsMut → Type 0
SameRooms r s = (s.lengths.ghost_name ≡ r.lengths.ghost_name) × (s.counts.ghost_name ≡ r.counts.ghost_name) × (s.text.ghost_name ≡ r.text.ghost_name)

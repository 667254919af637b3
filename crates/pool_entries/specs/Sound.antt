-- When a state is sound: its entry count, its code page and the lent rooms.
use Rattle.std.specs.Prelude.{ℕ, Bool, not, ◌&&◌, ◌||◌, length, take}
use Rattle.common.specs.Sizes.{max_bytes, max_entries, max_codepage}
use Rattle.common.specs.Choice.{when◌then◌else◌, ◌<?◌, ◌≤?◌}
use Rattle.common.specs.Lists.{total}
use Rattle.common.specs.Answers.{Answer, refused, nowhere}
use Rattle.pool_entries.specs.Entries.{Entry, Rooms, first_entries, entry_room_lem, free, all}

-- "A state is sound when entries fit their rooms and number at most 16,777,215, the code page has 31 bits, lengths sum to at
-- most the text room, and an entry with count 0 has at most 65,535 bytes."
unfoldable pub sound_rooms : ℕ → ℕ → Rooms → Bool
sound_rooms n codepage w =
    n ≤? entry_room_lem w && n ≤? max_entries && codepage ≤? max_codepage
    && total (take n w.lengths) ≤? length w.text
    && all (λ (e : Entry). not (free e) || length e.text ≤? 65535) (first_entries n w)

-- "Order: 22 first, then 24."
abbrev pub on_sound_rooms : {A : Type 0} → ℕ → ℕ → Rooms → Answer A → Answer A
on_sound_rooms n codepage w a =
    when max_bytes <? length w.text then refused 22 nowhere
    else when not (sound_rooms n codepage w) then refused 24 nowhere
    else a

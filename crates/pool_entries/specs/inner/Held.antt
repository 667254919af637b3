-- Entries as the code finds them in their rooms.
use Rattle.std.specs.Prelude.{ℕ, Result, not, length}
use Rattle.common.specs.Sizes.{max_bytes}
use Rattle.common.specs.Choice.{when◌then◌else◌, ◌<?◌}
use Rattle.common.specs.Answers.{Answer, gives, refused, nowhere}
use Rattle.common.specs.Refusals.{answer_as}
use Rattle.pool_entries.specs.Entries.{Rooms}
use Rattle.pool_entries.specs.Rooms.{rooms_of}
use Rattle.pool_entries.specs.inner.Sound.{fits_b}
use Rattle.common.specs.declared.refusal.Refusal.{Refusal}
use Rattle.pool_entries.specs.declared.held.HeldEntries.{HeldEntries}

-- the tests but for those of the lengths: 22 for the text room, then 24
abbrev pub entries_answer : ℕ → ℕ → Rooms → Answer (ℕ × Rooms)
entries_answer n codepage w =
    when max_bytes <? length w.text then refused 22 nowhere
    else when not (fits_b n codepage w.lengths w.counts) then refused 24 nowhere
    else gives (n, w)

abbrev pub entries_as : Result HeldEntries Refusal → Answer (ℕ × Rooms)
entries_as found = answer_as (λ (e : HeldEntries). (e.n, rooms_of e.rooms)) found

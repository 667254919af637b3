-- What the judging of a state answers, and the search of a take: for the crate above; the desk reads stringpool/specs/Take.antt.
use Rattle.std.specs.Prelude.{ℕ, Result, List, length, take}
use Rattle.common.specs.Sizes.{max_bytes}
use Rattle.common.specs.Choice.{when◌then◌else◌, ◌<?◌}
use Rattle.common.specs.Lists.{total}
use Rattle.common.specs.Answers.{Answer, gives, refused, nowhere}
use Rattle.common.specs.Refusals.{answer_as}
use Rattle.pool_entries.specs.Entries.{Rooms, first_entries}
use Rattle.pool_entries.specs.Sound.{on_sound_rooms}
use Rattle.pool_entries.specs.Choose.{Chooser}
use Rattle.pool_entries.specs.Rooms.{rooms_of}
use Rattle.common.specs.declared.refusal.Refusal.{Refusal}
use Rattle.pool_entries.specs.declared.held.SoundEntries.{SoundEntries}
use Rattle.pool_entries.specs.declared.choosing.Spot.{Spot}

-- of a sound state, the bytes that its texts use
abbrev pub judge_answer : ℕ → ℕ → Rooms → Answer ℕ
judge_answer n codepage w = on_sound_rooms n codepage w (gives (total (take n w.lengths)))

-- a place, where its text starts, and the bytes that all texts use
abbrev pub spot_at : ℕ → Rooms → ℕ → ℕ × ℕ × ℕ
spot_at n w k = (k, total (take k w.lengths), total (take n w.lengths))

-- 22 for the text and for the text room, then 24; of a sound state, the place that a take by this choice has
abbrev pub choose_answer : Chooser → ℕ → ℕ → Rooms → List ℕ → Answer (ℕ × ℕ × ℕ)
choose_answer choose n codepage w t =
    when max_bytes <? length t then refused 22 nowhere
    else on_sound_rooms n codepage w (gives (spot_at n w (choose t (first_entries n w))))

-- of a sound state, its entries' number and rooms too
abbrev pub sound_answer : ℕ → ℕ → Rooms → Answer (ℕ × Rooms × ℕ)
sound_answer n codepage w = on_sound_rooms n codepage w (gives (n, w, total (take n w.lengths)))

abbrev pub sound_as : Result SoundEntries Refusal → Answer (ℕ × Rooms × ℕ)
sound_as found = answer_as (λ (s : SoundEntries). (s.entries.n, rooms_of s.entries.rooms, s.used)) found

abbrev pub chosen_as : Result Spot Refusal → Answer (ℕ × ℕ × ℕ)
chosen_as chosen = answer_as (λ (s : Spot). (s.place, s.start, s.used)) chosen

-- What a take or a drop is to do, settled before a byte is touched.
use Rattle.std.specs.Prelude.{ℕ, ◌+◌, ◌-◌, ◌≤◌, ◌<◌, ◌≡◌, List, length, set, Result, Ok, Err}
use Rattle.common.specs.Answers.{Answer}
use Rattle.common.specs.Refusals.{answer_as}
use Rattle.common.specs.declared.refusal.Refusal.{Refusal}
use Rattle.stringpool.specs.Pool.{Rooms, rooms}
use Rattle.text_room.specs.Texts.{splice}
use Rattle.stringpool.specs.declared.entry.Plan.{Plan}
use Rattle.stringpool.specs.declared.entry.Plan.TheVariants.{Count, Put}

-- the rooms afterwards; the text that is put is t
abbrev pub carried : Plan → Rooms → List ℕ → Rooms
carried (Count k c) w t = rooms w.lengths (set w.counts k c) w.text
carried (Put k s c) w t = rooms (set w.lengths k (length t)) (set w.counts k c) (splice w.text s.start s.old s.used t)

-- a text in the place of old bytes at start, where used bytes are in use
abbrev pub put_at : ℕ → ℕ → ℕ → ℕ → ℕ → Plan
put_at k start old used c = Put k (record { start = start; old = old; used = used }) c

-- the rooms have the entry, and room for the text
abbrev pub Ready : Plan → Rooms → List ℕ → Type 0
Ready (Count k c) w t = (k < 16777215) × (k < length w.counts)
Ready (Put k s c) w t =
    (k < 16777215) × (k < length w.lengths) × (k < length w.counts) × (length t ≤ 268435455)
    × (s.start + s.old ≤ s.used) × (s.used ≤ length w.text) × (s.used - s.old + length t ≤ length w.text) × (length w.text ≤ 268435455)

-- a plan, or a refusal, and what then stands in the rooms and is handed out make an outcome
abbrev pub Planned : {A : Type 0} → Answer A × Rooms → (Plan → A) → Result Plan Refusal → Rooms → List ℕ → Type 0
Planned goal given (Ok x) w t = ((answer_as given (Ok x), carried x w t) ≡ goal) × Ready x w t
Planned goal given (Err why) w t = (answer_as given (Err why), w) ≡ goal

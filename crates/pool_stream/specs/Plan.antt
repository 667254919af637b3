-- What a load takes from a pool stream, and what loading its entries answers and leaves.
use Rattle.std.specs.Prelude.{ℕ, Result, List, length}
use Rattle.common.specs.Lists.{◌over◌, total}
use Rattle.common.specs.Answers.{Answer, gives, on_given, outcome}
use Rattle.common.specs.Refusals.{answer_as}
use Rattle.order.specs.Order.{streams_fit_lem, load_fits_lem}
use Rattle.pool_entries.specs.Entries.{Rooms, rooms, entry_room_lem}
use Rattle.pool_stream.specs.Entries.{pool_entries_lem}
use Rattle.common.specs.declared.refusal.Refusal.{Refusal}
use Rattle.pool_stream.specs.declared.plan.LoadPlan.{LoadPlan}

-- "Order: 22 first .. Load: 1, 2, 3, 4, 5, 6.": the lengths and the counts that are loaded, by the sizes of the entry room, the data stream
-- and the text room
abbrev pub load_plan : List ℕ → ℕ → ℕ → ℕ → Answer (List ℕ × List ℕ)
load_plan s entries stream text =
    on_given (streams_fit_lem (length s) stream text)
    (λ _. on_given (pool_entries_lem s) (λ x. on_given (load_fits_lem (length x.0) (total x.0) entries stream text) (λ _. gives x)))

-- how many entries, and how many bytes their texts take
abbrev pub sizes_of : Answer (List ℕ × List ℕ) → Answer (ℕ × ℕ)
sizes_of entries = on_given entries (λ x. gives (length x.0, total x.0))

abbrev pub planned_as : Result LoadPlan Refusal → Answer (ℕ × ℕ)
planned_as planned = answer_as (λ (p : LoadPlan). (p.entries, p.used)) planned

-- the lengths and the counts, put over the lent ones; the texts are the crate's above
abbrev pub entries_outcome : List ℕ → ℕ → Rooms → Answer (ℕ × ℕ) × Rooms
entries_outcome s stream w =
    outcome w
    (on_given (load_plan s (entry_room_lem w) stream (length w.text))
    (λ x. gives ((length x.0, total x.0), rooms (x.0 over w.lengths) (x.1 over w.counts) w.text)))

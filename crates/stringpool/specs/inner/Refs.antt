-- Entry places as the code makes them.
use Rattle.std.specs.Prelude.{ℕ, Result}
use Rattle.common.specs.Answers.{Answer}
use Rattle.common.specs.Refusals.{answer_as}
use Rattle.common.specs.declared.refusal.Refusal.{Refusal}
use Rattle.stringpool.specs.Refs.{reference_to}
use Rattle.stringpool.specs.declared.refs.EntryPlace.{EntryPlace}
use Rattle.common.specs.declared.string_ref.StringRef.{StringRef}

abbrev pub placed_as : Result EntryPlace Refusal → Answer ℕ
placed_as placed = answer_as (λ (k : EntryPlace). k.0) placed

-- the reference number of an entry place
abbrev pub ref_of : EntryPlace → StringRef
ref_of k = record { 0 = reference_to k.0 }

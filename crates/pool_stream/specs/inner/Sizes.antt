-- The sizes of a pool stream as the code finds them, and its lengths and counts.
use Rattle.std.specs.Prelude.{ℕ, ◌≤◌, ◌≡◌, Result, List, [], length}
use Rattle.common.specs.Answers.{Answer, gives, refused}
use Rattle.pool_stream.specs.Entries.{pool_entries_lem}
use Rattle.common.specs.Refusals.{answer_as}
use Rattle.common.specs.declared.refusal.Refusal.{Refusal}
use Rattle.pool_stream.specs.declared.plan.Sized.{Sized}

abbrev pub sized_as : Result Sized Refusal → Answer (ℕ × ℕ)
sized_as sized = answer_as (λ (s : Sized). (s.entries, s.sum)) sized

-- the lengths and the counts of a pool stream, none where it is cut
abbrev pub or_none : Answer (List ℕ × List ℕ) → List ℕ × List ℕ
or_none (gives x) = x
or_none (refused n at) = ([], [])

abbrev pub lengths_in : List ℕ → List ℕ
lengths_in s = (or_none (pool_entries_lem s)).0

abbrev pub counts_in : List ℕ → List ℕ
counts_in s = (or_none (pool_entries_lem s)).1

-- n entries, none cut, and rooms of these sizes that hold them
pub record Filling (s : List ℕ) (n lengths counts : ℕ) : Type 0 where
  pub is : pool_entries_lem s ≡ gives (lengths_in s, counts_in s)
  pub many : length (lengths_in s) ≡ n
  pub even : length (counts_in s) ≡ n
  pub marked : 4 ≤ length s
  pub small : length s ≤ 268435455
  pub long : n ≤ lengths
  pub counted : n ≤ counts

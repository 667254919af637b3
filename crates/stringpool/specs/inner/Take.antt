-- What a take knows of the entry that was chosen, and what it hands out.
use Rattle.std.specs.Prelude.{ℕ, ◌+◌, ◌<◌, ◌≤◌, ◌≡◌, List, length, take, get_or, ℤ}
use Rattle.common.specs.Lists.{total}
use Rattle.common.specs.Choice.{◌<?◌, when◌then◌else◌}
use Rattle.common.specs.Answers.{gives}
use Rattle.stringpool.specs.Pool.{Rooms}
use Rattle.stringpool.specs.Refs.{reference_to}
use Rattle.stringpool.specs.Take.{counting, Chooser, Legal}
use Rattle.stringpool.specs.inner.Judged.{Judged}
use Rattle.pool_entries.specs.Calls.{choose_answer}
use Rattle.pool_entries.specs.declared.choosing.Spot.{Spot}
use Rattle.stringpool.specs.declared.pool.StringPool.{StringPool}
use Rattle.stringpool.specs.declared.entry.Plan.{Plan}
use Rattle.stringpool.specs.declared.entry.Plan.TheVariants.{Count, Put}

-- a place is what this chooser answers
abbrev pub IsChosen : Chooser → StringPool → Rooms → List ℕ → Spot → Type 0
IsChosen choose p w t s = gives (s.place, s.start, s.used) ≡ choose_answer choose p.num_strings p.codepage w t

-- what is known of a place that was chosen, of a pool that was judged and a text within the sizes
pub record Known (p : StringPool) (w : Rooms) (t : List ℕ) (s : Spot) : Type 0 where
  pub judged : Judged p w s.used
  pub small : length t ≤ 268435455
  pub within : s.place ≤ p.num_strings
  pub begins : s.start ≡ total (take s.place w.lengths)
  pub below : s.place < p.num_strings → 0 < get_or w.counts s.place 0 → get_or w.counts s.place 0 < 65535

-- some legal chooser answers the place
pub record Chosen (p : StringPool) (w : Rooms) (t : List ℕ) (s : Spot) : Type 0 where
  pub known : Known p w t s
  pub chooser : Chooser
  pub legal : Legal chooser
  pub is : IsChosen chooser p w t s

-- the pool with an entry at k: one of its own, or one that is added
abbrev pub holding_at : StringPool → ℕ → StringPool
holding_at p k = when k <? p.num_strings then p else counting p (k + 1)

-- what a take of a plan hands out
abbrev pub taken_by : StringPool → Plan → ℤ × StringPool
taken_by p (Count k c) = (reference_to k, holding_at p k)
taken_by p (Put k s c) = (reference_to k, holding_at p k)

-- the entry's place has a number
abbrev pub Numbered : Plan → Type 0
Numbered (Count k c) = k < 16777215
Numbered (Put k s c) = k < 16777215

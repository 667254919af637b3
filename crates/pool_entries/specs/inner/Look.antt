-- What the searches of a take find; 01's choice is looked for in a state that is judged on the way.
use Rattle.std.specs.Prelude.{◌≡◌, ℕ, ◌-◌, ◌*◌, ◌<◌, ◌≤◌, true, false, List, length, take, drop, ◌≢◌, slice_index}
use Rattle.common.specs.Lists.{total}
use Rattle.std.specs.Int.{w64, from_le_bytes}
use Rattle.pool_entries.specs.Entries.{Entry, entry, Rooms, first_entries}
use Rattle.pool_entries.specs.Choose.{first_free_or_equal, can_count_up_lem, equal_then_free_lem}
use Rattle.pool_entries.specs.inner.Adding.{Each}
use Rattle.pool_entries.specs.inner.Fit.{Fit}
use Rattle.pool_entries.specs.inner.Sound.{all_small_lem}

-- eight bytes as a number
abbrev pub Word : List ℕ → ℕ → ℕ → Type 0
Word s at r = r ≡ from_le_bytes w64 (take 8 (drop at s))

-- a text's last eight bytes as a number, where it has eight
abbrev pub Ends : List ℕ → ℕ → Type 0
Ends t word = 8 ≤ length t → Word t (length t - 8) word

-- the counts from..to are above 0
abbrev pub Counted : List ℕ → ℕ → ℕ → Type 0
Counted cs from to = Each (λ k. 0 < slice_index cs k) from to

-- the first free entry of from..to is at k; with none, k is `to`
pub record FreeAt (cs : List ℕ) (from to k : ℕ) : Type 0 where
  pub after : from ≤ k
  pub within : k ≤ to
  pub counted : Counted cs from k
  pub free : k < to → slice_index cs k ≡ 0

-- the lengths from..to are other than size
abbrev pub Others : List ℕ → ℕ → ℕ → ℕ → Type 0
Others ls size from to = Each (λ k. slice_index ls k ≢ size) from to

-- the first k lengths sum to s
pub record SumTo (ls : List ℕ) (k s : ℕ) : Type 0 where
  pub is : s ≡ total (take k ls)
  pub few : s ≤ 4294967295 * k

-- the lengths from..k, of from..to, are passed by as other than size
pub record PassedBy (ls : List ℕ) (size from to k s : ℕ) : Type 0 where
  pub after : from ≤ k
  pub within : k ≤ to
  pub others : Others ls size from k
  pub sum : SumTo ls k s

-- all entries are small where those from i on are
abbrev pub SmallTo : ℕ → List ℕ → List ℕ → ℕ → Type 0
SmallTo n ls cs i = all_small_lem (take n ls) (take n cs) ≡ all_small_lem (drop i (take n ls)) (drop i (take n cs))

-- the entry at k, by the rooms
abbrev pub entry_at : Rooms → ℕ → Entry
entry_at w k = entry (take (slice_index w.lengths k) (drop (total (take k w.lengths)) w.text)) (slice_index w.counts k)

-- none of the entries from..to can count up
abbrev pub NoneUp : Rooms → List ℕ → ℕ → ℕ → Type 0
NoneUp w t from to = Each (λ k. can_count_up_lem t (entry_at w k) ≡ false) from to

-- the first k entries use s bytes; in a pool whose n entries fit, k is the first of from..to that can count up, and with none it is `to`
pub record UpAt (n : ℕ) (w : Rooms) (t : List ℕ) (from to k s : ℕ) : Type 0 where
  pub after : from ≤ k
  pub within : k ≤ to
  pub sum : SumTo w.lengths k s
  pub before : Fit n w → NoneUp w t from k
  pub here : k < to → Fit n w → can_count_up_lem t (entry_at w k) ≡ true

-- the first k entries use s bytes and none of them is free; in a pool whose entries fit, k is 01's choice
pub record FoundIs (n : ℕ) (w : Rooms) (t : List ℕ) (k s : ℕ) : Type 0 where
  pub within : k ≤ n
  pub sum : SumTo w.lengths k s
  pub counted : Counted w.counts 0 k
  pub chosen : Fit n w → k ≡ first_free_or_equal t (first_entries n w)

-- k is the default choice, and the first k entries use s bytes
pub record PreferredIs (n : ℕ) (w : Rooms) (t : List ℕ) (k s : ℕ) : Type 0 where
  pub chosen : k ≡ equal_then_free_lem t (first_entries n w)
  pub sum : s ≡ total (take k w.lengths)

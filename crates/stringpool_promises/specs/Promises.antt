-- What is promised of a pool over several calls: demand 3, over any list of takes and drops; an equal entry counts up; soundness; what is written
-- reads back; what was read is written back.
use Rattle.std.specs.Prelude.{ℕ, zero, suc, ◌+◌, ◌≤◌, ◌<◌, ◌≡◌, ◌↔◌, Bool, true, false, ◌&&◌, List, [], ◌∷◌, ◌++◌, map, length, take, drop, get_or, set, ℤ, pos, negsuc}
use Rattle.common.specs.Choice.{when◌then◌else◌, ◌≤?◌, ◌=?◌}
use Rattle.common.specs.Answers.{Answer, gives, refused}
use Rattle.common.specs.Lists.{◌over◌, total}
use Rattle.stringpool.specs.Pool.{Entry, Rooms, rooms, entries_of, entry_room_lem, sound}
use Rattle.stringpool.specs.Refs.{reference_to}
use Rattle.stringpool.specs.Take.{same_bytes, first_place, Chooser, first_free_or_equal, can_count_up_lem, equal_then_free_lem, Legal, take_outcome}
use Rattle.stringpool.specs.Drop.{drop_outcome}
use Rattle.stringpool.specs.Load.{Found, entry_in, load_outcome}
use Rattle.stringpool.specs.Load as load
use Rattle.stringpool.specs.Write.{pool_bytes, data_bytes, write_outcome}
use Rattle.stringpool.specs.Pages.{new_answer, set_page_answer}
use Rattle.stringpool.specs.Show.{show_answer, refcount_answer, or_empty}
use Rattle.little_endian.specs.Promises.{AreBytes}
use Rattle.stringpool.specs.declared.pool.StringPool.{StringPool}
use Rattle.common.specs.Sizes.{max_bytes}

-- a pool with the rooms that are lent to its calls
pub record State : Type 0 where
  pub pool : StringPool
  pub rooms : Rooms

pub data Call : Type 0 where
  take-of : Chooser → List ℕ → Call
  drop_of : ℤ → Call

abbrev pub AllLegal : List Call → Type 0
AllLegal [] = Unit {0}
AllLegal (take-of choose t ∷ cs) = Legal choose × AllLegal cs
AllLegal (drop_of r ∷ cs) = AllLegal cs

-- the state after a call; a refused one hands back no pool, and the pool is as it was
abbrev pub left : {A : Type 0} → (A → StringPool) → State → Answer A × Rooms → State
left f s (gives a, w) = record { pool = f a; rooms = w }
left f s (refused n at, w) = record { pool = s.pool; rooms = w }

abbrev pub after : State → Call → State
after s (take-of choose t) = left (λ (x : ℤ × StringPool). x.1) s (take_outcome choose s.pool s.rooms t)
after s (drop_of r) = left (λ (x : StringPool). x) s (drop_outcome s.pool s.rooms r)

abbrev pub ran : State → List Call → State
ran s [] = s
ran s (c ∷ cs) = ran (after s c) cs

-- within the size, and sound
abbrev pub SoundState : State → Type 0
SoundState s = (length s.rooms.text ≤ max_bytes) × (sound s.pool s.rooms ≡ true)

abbrev pub entries : State → List Entry
entries s = entries_of s.pool s.rooms

abbrev pub shows : State → ℤ → List ℕ
shows s r = or_empty (show_answer s.pool s.rooms r)

abbrev pub count_or0 : Answer ℕ → ℕ
count_or0 (gives n) = n
count_or0 (refused n at) = 0

abbrev pub count : State → ℤ → ℕ
count s r = count_or0 (refcount_answer s.pool s.rooms r)

abbrev pub accepted : {A : Type 0} → Answer A → Bool
accepted (gives a) = true
accepted (refused n at) = false

abbrev pub same_number : ℤ → ℤ → Bool
same_number (pos a) (pos b) = a =? b
same_number (pos a) (negsuc b) = false
same_number (negsuc a) (pos b) = false
same_number (negsuc a) (negsuc b) = a =? b

abbrev pub answers : Answer (ℤ × StringPool) → ℤ → Bool
answers (gives x) r = same_number x.0 r
answers (refused n at) r = false

abbrev pub one : Bool → ℕ
one b = when b then 1 else 0

-- at how many of the calls f holds
abbrev pub tally : (State → Call → Bool) → State → List Call → ℕ
tally f s [] = 0
tally f s (c ∷ cs) = one (f s c) + tally f (after s c) cs

-- what an entry counts for the text t
abbrev pub count_for : List ℕ → Entry → ℕ
count_for t e = when same_bytes e.text t then e.count else 0

abbrev pub sum_for : List ℕ → List Entry → ℕ
sum_for t [] = 0
sum_for t (e ∷ es) = count_for t e + sum_for t es

-- an accepted take of t
abbrev pub took : List ℕ → State → Call → Bool
took t s (take-of choose u) = accepted (take_outcome choose s.pool s.rooms u).0 && same_bytes u t
took t s (drop_of r) = false

-- an accepted drop of a reference that showed t just before
abbrev pub gave_up : List ℕ → State → Call → Bool
gave_up t s (take-of choose u) = false
gave_up t s (drop_of r) = accepted (drop_outcome s.pool s.rooms r).0 && same_bytes (shows s r) t

-- a take that answered r
abbrev pub took_ref : ℤ → State → Call → Bool
took_ref r s (take-of choose u) = answers (take_outcome choose s.pool s.rooms u).0 r
took_ref r s (drop_of q) = false

-- an accepted drop of r
abbrev pub gave_up_ref : ℤ → State → Call → Bool
gave_up_ref r s (take-of choose u) = false
gave_up_ref r s (drop_of q) = accepted (drop_outcome s.pool s.rooms q).0 && same_number q r

-- the count of r is at least 1 before the calls and after each
abbrev pub StaysCounted : ℤ → State → List Call → Type 0
StaysCounted r s [] = 1 ≤ count s r
StaysCounted r s (c ∷ cs) = (1 ≤ count s r) × StaysCounted r (after s c) cs

-- Demand 3: "Begin with an empty or accepted pool and make any takes and drops, each on the state the last call left, nobody else writing its buffers."
-- "For each text, the counts of the entries showing it sum to that sum at the start, plus accepted takes of it, minus accepted drops of references that showed it just before."
-- "Each reference's count equals its starting count (0 if new) plus takes that answered it, minus accepted drops of it; while that stays at least 1, it shows the same bytes."
-- What is taken away stands on the left; "while" is from any call on.
pub record Demand3 (s : State) (cs : List Call) : Type 0 where
  pub text : (t : List ℕ) → sum_for t (entries (ran s cs)) + tally (gave_up t) s cs ≡ sum_for t (entries s) + tally (took t) s cs
  pub reference : (r : ℤ) → count (ran s cs) r + tally (gave_up_ref r) s cs ≡ count s r + tally (took_ref r) s cs
  pub keeps : (r : ℤ) (earlier later : List Call) → cs ≡ earlier ++ later → StaysCounted r (ran s earlier) later → shows (ran s cs) r ≡ shows (ran s earlier) r

-- any takes and drops on any state at all, also over the size or unsound, for any legal choice of entry
abbrev pub CountsKept : Type 0
CountsKept = (s : State) (cs : List Call) → AllLegal cs → Demand3 s cs

-- takes as `incref` (the default) and `incref_first` (the old choice) answer and leave them, and drops as `decref` does
pub data Op : Type 0 where
  takes : List ℕ → Op
  takes_first : List ℕ → Op
  drops : ℤ → Op

abbrev pub as_call : Op → Call
as_call (takes t) = take-of equal_then_free_lem t
as_call (takes_first t) = take-of first_free_or_equal t
as_call (drops r) = drop_of r

-- document 02: "Demand 3 holds for any mixture of the two."
abbrev pub CallsKept : Type 0
CallsKept = (s : State) (ops : List Op) → Demand3 s (map as_call ops)

-- "Begin with an empty .. pool", in any rooms
abbrev pub KeptFromNew : Type 0
KeptFromNew = (page : ℕ) (w : Rooms) (p : StringPool) (ops : List Op) → new_answer page ≡ gives p → Demand3 (record { pool = p; rooms = w }) (map as_call ops)

-- "or accepted pool": one that `load` gave, in the rooms as it left them
abbrev pub KeptFromLoad : Type 0
KeptFromLoad = (s d : List ℕ) (w : Rooms) (p : StringPool) (v : Rooms) (ops : List Op) → load_outcome s d w ≡ (gives p, v)
    → Demand3 (record { pool = p; rooms = v }) (map as_call ops)

-- both ways of choosing are legal
abbrev pub ChoosesLegally : Type 0
ChoosesLegally = Legal first_free_or_equal × Legal equal_then_free_lem

-- ---- the default take counts up the text that is there

-- the rooms with one count one higher, and nothing else changed
abbrev pub counted_up : Rooms → ℕ → Rooms
counted_up w k = rooms w.lengths (set w.counts k (get_or w.counts k 0 + 1)) w.text

-- document 02: "under the default, 6, 11, 12 and 4 are not given while an equal entry can count up": the first such is answered, and its count is
-- all that changes
abbrev pub EqualCountsUp : Type 0
EqualCountsUp = (s : State) (t : List ℕ) → SoundState s → length t ≤ max_bytes
    → let k = first_place (can_count_up_lem t) (entries s) in
    k < length (entries s) → take_outcome equal_then_free_lem s.pool s.rooms t ≡ (gives (reference_to k, s.pool), counted_up s.rooms k)

-- ---- what is sound stays sound

abbrev pub StaysSound : Type 0
StaysSound = (s : State) (cs : List Call) → AllLegal cs → SoundState s → SoundState (ran s cs)

-- a loaded state is sound
abbrev pub LoadsSound : Type 0
LoadsSound = (s d : List ℕ) (w : Rooms) (p : StringPool) (v : Rooms) → AreBytes s → load_outcome s d w ≡ (gives p, v) → SoundState (record { pool = p; rooms = v })

-- so is a new one, in any rooms within the size, and one with another code page
abbrev pub MakesSound : Type 0
MakesSound = (page : ℕ) (w : Rooms) (p : StringPool) → length w.text ≤ max_bytes → new_answer page ≡ gives p → SoundState (record { pool = p; rooms = w })

abbrev pub PageSound : Type 0
PageSound = (page : ℕ) (s : State) (p : StringPool) → SoundState s → set_page_answer s.pool s.rooms page ≡ gives p → SoundState (record { pool = p; rooms = s.rooms })

-- ---- a written pool reads back

-- what the code's types say of the lent counts
abbrev pub Counts16 : Rooms → Type 0
Counts16 w = (i : ℕ) → get_or w.counts i 0 < 65536

-- what `write_pool` and `write_data` gave is read by `load`, which is not refused: the same entry count, mark and code page,
-- and the same entries, each with its length, count and text
pub record Back (p : StringPool) (w v : Rooms) (out₁ out₂ : List ℕ) : Type 0 where
  pub m : ℕ
  pub n : ℕ
  pub pool-written : (write_outcome p w (pool_bytes p w) out₁).0 ≡ gives m
  pub data_written : (write_outcome p w (data_bytes p w) out₂).0 ≡ gives n
  pub pool-read :
      (load_outcome (take m (write_outcome p w (pool_bytes p w) out₁).1) (take n (write_outcome p w (data_bytes p w) out₂).1) v).0 ≡ gives p
  pub entries-read :
      entries_of p (load_outcome (take m (write_outcome p w (pool_bytes p w) out₁).1) (take n (write_outcome p w (data_bytes p w) out₂).1) v).1 ≡ entries_of p w

-- for every sound state, and rooms that suffice
abbrev pub ReadsBack : Type 0
ReadsBack = (p : StringPool) (w v : Rooms) (out₁ out₂ : List ℕ) → SoundState (record { pool = p; rooms = w }) → Counts16 w
    → length v.text ≤ max_bytes → p.num_strings ≤ entry_room_lem v → length (data_bytes p w) ≤ length v.text
    → length (pool_bytes p w) ≤ length out₁ → length (data_bytes p w) ≤ length out₂ → Back p w v out₁ out₂

-- ---- a stream that was read is written back identically

-- a number of each thing found in a pool stream, added up
abbrev pub add_found : (Found → ℕ) → Found → (ℕ → ℕ) → ℕ
add_found f (load.one l c wide size) more = f (load.one l c wide size) + more size
add_found f load.cut more = f load.cut
add_found f (load.ends stray) more = f (load.ends stray)

abbrev pub add_in : (Found → ℕ) → ℕ → List ℕ → ℕ
add_in f zero s = 0
add_in f (suc steps) s = add_found f (entry_in s) (λ size. add_in f steps (drop size s))

-- the stray byte, and a 4-byte length from 1 to 65,535
abbrev pub stray : Found → ℕ
stray (load.one l c wide size) = 0
stray load.cut = 0
stray (load.ends k) = k

abbrev pub short_wide : Found → ℕ
short_wide (load.one l c wide size) = when wide && 1 ≤? l && l ≤? 65535 then 1 else 0
short_wide load.cut = 0
short_wide (load.ends k) = 0

-- "no stray byte and no 4-byte length from 1 to 65,535"
abbrev pub Plain : List ℕ → Type 0
Plain s = (add_in stray (length s) (drop 4 s) ≡ 0) × (add_in short_wide (length s) (drop 4 s) ≡ 0)

-- the call writes exactly s
abbrev pub Writes : StringPool → Rooms → List ℕ → List ℕ → List ℕ → Type 0
Writes p w bytes out s = write_outcome p w bytes out ≡ (gives (length s), s over out)

-- "A pool stream read is written back identically exactly when there was no stray byte and no 4-byte length from 1 to 65,535."
abbrev pub SamePoolStream : Type 0
SamePoolStream = (s d : List ℕ) (w v : Rooms) (p : StringPool) (out : List ℕ) → AreBytes s → load_outcome s d w ≡ (gives p, v) → length s ≤ length out
    → Writes p v (pool_bytes p v) out s ↔ Plain s

-- the data stream exactly when nothing follows the texts
abbrev pub SameDataStream : Type 0
SameDataStream = (s d : List ℕ) (w v : Rooms) (p : StringPool) (out : List ℕ) → AreBytes s → load_outcome s d w ≡ (gives p, v) → length d ≤ length out
    → Writes p v (data_bytes p v) out d ↔ (length d ≡ total (take p.num_strings v.lengths))

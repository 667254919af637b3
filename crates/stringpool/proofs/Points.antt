-- The points of specs/Points.antt, by computation.
use mathlib.Core.Path.{refl, ap, ap₂, ◌∙◌}
use Prim.Native.Nat.{ℕ}
use native.Mathlib.Omega.{arith}
use mathlib.Core.Bool.{Bool, true, false, not, ◌&&◌}
use mathlib.Core.List.{List}
use lib.ListN.{length}
use lib.IntN.{ℤ}
use borrow.Author.Tests.{le-leb, lt-leb, lt-ltb}
use Rattle.common.specs.Choice.{when◌then◌else◌, ◌≤?◌}
use Rattle.common.specs.Answers.{Answer, gives, refused, nowhere, on_given}
use Rattle.order.specs.Order.{text_fits}
use Rattle.pool_entries.specs.Sound.{sound_rooms}
use Rattle.pool_stream.specs.Entries.{entry_bytes}
use Rattle.stringpool.specs.Pool.{Rooms, entries_of, entry_room_lem, texts, put_back}
use Rattle.stringpool.specs.Refs.{reference_to}
use Rattle.stringpool.specs.Take.{taken_at_lem, counting}
use Rattle.stringpool.specs.declared.pool.StringPool.{StringPool}
use Rattle.stringpool.specs.Points.{DropOrder, CountsDown, FreeWithBytes, FreeExactly, ChoiceStays, CountsUpThere, NeedsNoRoom, CountFull, EntryRoom, FullFirst, NothingButSix, UnsoundFirst, UnsoundThen, UnsoundTake, CodePage, Marked, OutputRoom, LoadInOrder, Showing, TakeSize, RoomSize, RoomBefore6}

-- a take at k by its first three tests
abbrev By : StringPool → Rooms → List ℕ → ℕ → Bool → Bool → Bool → Answer ((ℤ × StringPool) × Rooms)
By p w t k new full last =
    let es = entries_of p w in
    let after = taken_at_lem t k es in
    let fits = text_fits (length (texts after)) (length w.text) in
    on_given
    (when new then (when full then refused 11 nowhere else when last then refused 12 nowhere else when entry_room_lem w ≤? length es then refused 4 nowhere else fits) else fits)
    (λ _. gives ((reference_to k, counting p (length after)), put_back p w after))

pub drop-order : DropOrder
unfolding sound_rooms entry_bytes
drop-order = (refl, refl, refl, refl, refl, refl)

pub counts-down : CountsDown
unfolding sound_rooms entry_bytes
counts-down = (refl, refl, refl)

pub free-with_bytes : FreeWithBytes
unfolding sound_rooms entry_bytes
free-with_bytes = refl

pub free-exactly : FreeExactly
unfolding sound_rooms entry_bytes
free-exactly = ((refl, refl), (refl, refl))

pub choice_stays : ChoiceStays
unfolding sound_rooms entry_bytes
choice_stays = (refl, (refl, refl))

pub counts-up_there : CountsUpThere
unfolding sound_rooms entry_bytes
counts-up_there = (refl, refl)

pub needs_no_room : NeedsNoRoom
unfolding sound_rooms entry_bytes
needs_no_room = (refl, refl, refl, refl, refl)

pub count-full : CountFull
unfolding sound_rooms entry_bytes
count-full = ((refl, refl, refl), (refl, refl, refl))

pub entry-room : EntryRoom
unfolding sound_rooms entry_bytes
entry-room = ((refl, refl, refl), (refl, refl, refl))

pub full_first : FullFirst
full_first = (
  λ p w t e h.
      let n : ℕ = length (entries_of p w) in
      ap₂ (λ (a b : Bool). By p w t n a b (16777215 ≤? n)) (le-leb n n (omega arith)) (ap₂ (λ (l m : Bool). not l && m) e (le-leb 65535 n h)),
  λ p w t e h.
      let n : ℕ = length (entries_of p w) in
      ap₂ (λ (a b : Bool). By p w t n a b (16777215 ≤? n)) (le-leb n n (omega arith)) (ap (λ (l : Bool). not l && 65535 ≤? n) e)
      ∙ ap (By p w t n true false) (le-leb 16777215 n h),
)

pub nothing_but_six : NothingButSix
nothing_but_six p w t k h =
    let n : ℕ = length (entries_of p w) in
    ap (λ (a : Bool). By p w t k a (not p.long_string_refs && 65535 ≤? n) (16777215 ≤? n)) (lt-leb n k h)

pub unsound-first : UnsoundFirst
unfolding sound_rooms entry_bytes
unsound-first = (refl, refl, refl)

pub unsound-then : UnsoundThen
unfolding sound_rooms entry_bytes
unsound-then = (refl, refl, refl)

pub unsound-take : UnsoundTake
unfolding sound_rooms entry_bytes
unsound-take choose = refl

pub code_page : CodePage
unfolding sound_rooms entry_bytes
code_page = (refl, refl, refl, refl)

pub marked : Marked
unfolding sound_rooms entry_bytes
marked = (refl, refl)

pub output-room : OutputRoom
unfolding sound_rooms entry_bytes
output-room = (refl, refl, refl, refl)

pub load_in_order : LoadInOrder
unfolding sound_rooms entry_bytes
load_in_order = (refl, refl, refl, refl, refl, refl, refl, refl, refl)

pub showing : Showing
unfolding sound_rooms entry_bytes
showing = (refl, refl, refl, refl, refl, refl, refl, refl, refl, refl)

pub take-size : TakeSize
unfolding sound_rooms entry_bytes
take-size = ((λ t e. rw e, λ t e. rw e), λ choose t e. (rw e, rw e))

pub room-before_6 : RoomBefore6
unfolding sound_rooms entry_bytes
room-before_6 = (refl, refl)

pub room-size : RoomSize
room-size p w h = (
  λ r. (simp (lt-ltb 268435455 (length w.text) h), simp (lt-ltb 268435455 (length w.text) h), simp (lt-ltb 268435455 (length w.text) h)),
  λ page. simp (lt-ltb 268435455 (length w.text) h),
  λ bytes out. simp (lt-ltb 268435455 (length w.text) h),
)

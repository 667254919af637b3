-- The points of specs/Points.antt, by computation.
use Rattle.std.proofs.Common.{◌≡◌, ℕ, Bool, true, false, not, ◌&&◌, ◌||◌, List, [], ◌∷◌, length, take, sym, refl, ap, ◌∙◌, ap₂, arith, le-ltb, lt-ltb, le-leb}
use mathlib.Core.Bool.{and-false, and-true}
use borrow.Author.Tests.{lt-leb}
use Rattle.common.specs.Choice.{when◌then◌else◌, ◌≤?◌}
use Rattle.common.specs.Lists.{total}
use Rattle.common.specs.Answers.{gives, refused, nowhere}
use Rattle.pool_entries.specs.Entries.{Entry, rooms, first_entries, entry_room_lem, free, all}
use Rattle.pool_entries.specs.Sound.{sound_rooms}
use Rattle.pool_entries.specs.inner.Sound.{small_b, fits_b}
use Rattle.pool_entries.proofs.Sound.{sound-same, judge_size}
use Rattle.pool_entries.specs.Points.{AsMany, TextAtSize, SizeFirst, TextFirst, EntriesFit, TooMany, CodePage, LengthsSum, FreeBytes, CountsUp, FirstOfThem, FromOneUp, EqualFirst, ThenFreeThenAdd}

-- one entry, by its length and its count
one_entry : (ts : List ℕ) (l c : ℕ) (is : Bool) → length ts ≡ l → small_b l c ≡ is → total (l ∷ []) ≡ l → sound_rooms 1 0 (rooms (l ∷ []) (c ∷ []) ts) ≡ is
unfolding fits_b
one_entry ts l c is e f t =
    sound-same 1 0 (rooms (l ∷ []) (c ∷ []) ts)
    ∙ ap₂ (λ (a b : Bool). when (when a then true else false) then b else false) f (le-leb (total (l ∷ [])) (length ts) (omega (arith, t, e))) ∙ go is
  where
    go : (b : Bool) → (when (when b then true else false) then true else false) ≡ b
    go true = refl
    go false = refl

pub size-first : SizeFirst
size-first = (
  λ n page w h. sym (judge_size n page w (gives (total (take n w.lengths))) h),
  λ n page w h e.
      ap₂ (λ (x y : Bool). when x then refused 22 nowhere else when not y then refused 24 nowhere else gives (total (take n w.lengths))) (le-ltb 268435455 (length w.text) h) e,
)

pub text-first : TextFirst
text-first choose n page w t h = simp (lt-ltb 268435455 (length t) h)

pub entries_fit : EntriesFit
unfolding sound_rooms
entries_fit = (refl, refl, refl)

pub too_many : TooMany
unfolding sound_rooms
too_many n page w h =
    let small : Bool = all (λ (e : Entry). not (free e) || length e.text ≤? 65535) (first_entries n w) in
    ap (λ (b : Bool). n ≤? entry_room_lem w && b && page ≤? 2147483647 && total (take n w.lengths) ≤? length w.text && small) (lt-leb n 16777215 h)
    ∙ ap (λ (b : Bool). b && page ≤? 2147483647 && total (take n w.lengths) ≤? length w.text && small) (and-false (n ≤? entry_room_lem w))

pub code_page : CodePage
unfolding sound_rooms
code_page = (refl, refl)

pub lengths-sum : LengthsSum
unfolding sound_rooms
lengths-sum = (refl, refl)

pub free_bytes : FreeBytes
free_bytes = (λ ts e. one_entry ts 65535 0 true e refl refl, λ ts e. one_entry ts 65536 0 false e refl refl, λ ts e. one_entry ts 65536 1 true e refl refl)

pub counts_up : CountsUp
unfolding sound_rooms
counts_up = (refl, refl, refl, refl)

pub first_of_them : FirstOfThem
unfolding sound_rooms
first_of_them = (refl, refl, refl, refl, refl)

pub from-one_up : FromOneUp
from-one_up = (refl, refl, refl, refl, refl)

pub equal-first : EqualFirst
equal-first = (refl, refl, refl, refl)

pub then_free_then_add : ThenFreeThenAdd
then_free_then_add = (refl, refl, refl)

pub as_many : AsMany
unfolding sound_rooms
as_many n page w h =
    let small : Bool = all (λ (e : Entry). not (free e) || length e.text ≤? 65535) (first_entries n w) in
    ap (λ (b : Bool). n ≤? entry_room_lem w && b && page ≤? 2147483647 && total (take n w.lengths) ≤? length w.text && small) (le-leb n 16777215 h)
    ∙ ap (λ (b : Bool). b && page ≤? 2147483647 && total (take n w.lengths) ≤? length w.text && small) (and-true (n ≤? entry_room_lem w))

pub text-at_size : TextAtSize
text-at_size choose n page w t h = simp (le-ltb 268435455 (length t) h)

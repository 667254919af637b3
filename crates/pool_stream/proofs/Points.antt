-- The points of specs/Points.antt, by computation.
use mathlib.Core.Path.{refl, ap₂}
use Prim.Native.Nat.{ℕ}
use mathlib.Core.List.{List}
use lib.ListN.{length}
use Rattle.common.specs.Lists.{total}
use Rattle.common.specs.Answers.{Answer, gives, on_given}
use Rattle.order.specs.Order.{load_fits_lem}
use Rattle.pool_stream.specs.Entries.{entry_bytes}
use Rattle.pool_stream.specs.Points.{BytesLeft, LongLength, ShortLong, Written, Marks, CutFirst}

pub bytes_left : BytesLeft
bytes_left = (refl, refl, refl, refl, refl, refl, refl)

pub long-length : LongLength
long-length = (refl, refl, refl, refl)

pub short-long : ShortLong
unfolding entry_bytes
short-long = (refl, refl, refl, refl)

pub written : Written
unfolding entry_bytes
written = (refl, refl, refl, refl, refl)

pub marks : Marks
marks = (refl, refl, refl)

pub cut-first : CutFirst
cut-first = (
  λ s entries stream text e f.
      ap₂ (λ (a : Answer (Unit {0})) (b : Answer (List ℕ × List ℕ)). on_given a (λ _. on_given b (λ x. on_given (load_fits_lem (length x.0) (total x.0) entries stream text) (λ _. gives x)))) e f,
  refl,
  refl,
)

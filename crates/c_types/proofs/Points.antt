-- The points of specs/Points.antt, by computation.
use mathlib.Core.Path.{refl}
use Rattle.c_types.specs.Points.{UnknownKind, KindLast, CheckLast, FirstBad, TwentyFirst}

pub unknown-kind : UnknownKind
unknown-kind choose =
    (λ p l c s. rw s, λ p l c s. rw s, λ p l c s. rw s, λ p l c s. rw s, λ p l c s. rw s, λ p l c s. rw s, λ p l c s. rw s, λ p l c s. rw s, λ p l c s. rw s)

pub kind_last : KindLast
kind_last choose = (λ p l c s. rw s, λ p l c s. rw s, λ p l c s. rw s, λ p l c s. rw s, λ p w new e. rw e, λ p l c text e. rw e)

pub check_last : CheckLast
check_last = (refl, refl, refl, refl, refl, refl, refl, λ text e. rw e)

pub first_bad : FirstBad
first_bad = (refl, refl, refl, refl)

pub twenty_first : TwentyFirst
twenty_first = refl

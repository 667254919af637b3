-- A text that is shown, and then copied to an output: where it is refused, the output is as it was.
use mathlib.Core.Path.{◌≡◌, refl}
use mathlib.Core.Bool.{Bool, true, false}
use mathlib.Core.List.{List}
use Prim.Native.Nat.{ℕ}
use Rattle.common.specs.Choice.{when◌then◌else◌}
use Rattle.common.specs.Answers.{Answer, gives, refused, nowhere, Place, on_given, refusal_of}
use Rattle.cell.specs.Handed.{unknown}
use Rattle.c_types.specs.Answers.{refusal_in}
use Rattle.c_types.specs.Unknown.{on_kind}
use Rattle.msi.specs.Texts.{copied_outcome}

pub refusal_kept : (shown : Answer (List ℕ)) → refusal_in (refusal_of shown) ≡ refusal_in shown
refusal_kept (gives t) = refl
refusal_kept (refused n at) = refl

pub copy_refused : (shown : Answer (List ℕ)) (out : List ℕ) (n : ℕ) (at : Place) → refused n at ≡ refusal_of shown → (refused n at, out) ≡ copied_outcome shown out
copy_refused (gives t) out n at e = cc
copy_refused (refused m p) out n at e = cc

-- where something else than the text is given for it, and the kind may be unknown
pub kind_refused : {A : Type 0} (shown : Answer (List ℕ)) (x : A) (kind : ℕ) (out : List ℕ) (n : ℕ) (at : Place) → refused n at ≡ on_given shown (λ t. gives x)
    → (refused n at, out) ≡ copied_outcome (on_kind nowhere kind shown) out
kind_refused (gives t) x kind out n at e = cc
kind_refused {A} (refused m p) x kind out n at e = go (unknown kind)
  where
    go : (b : Bool) → ◌≡◌ {A = Answer ℕ × List ℕ} (refused n at, out) (copied_outcome (when b then refused m p else refused m p) out)
    go true = cc
    go false = cc

-- What a call answers, as C has it, where the call was handed what was made of C's arguments.
use mathlib.Core.Path.{◌≡◌, ap, ap₂, ◌∙◌}
use Rattle.c_types.specs.Answers.{answered_as}

pub says : {A C S : Type 0} (f : A → C) (call : S → A) {r : C} {x : A} {s t : S} → r ≡ f x → s ≡ t → x ≡ call s → r ≡ f (call t)
says f call made same called = made ∙ ap f (called ∙ ap call same)

pub says_both : {A C S T : Type 0} (f : A → C) (call : S → T → A) {r : C} {x : A} {s t : S} {u v : T} → r ≡ f x → s ≡ t → u ≡ v → x ≡ call s u → r ≡ f (call t v)
says_both f call made same too called = made ∙ ap f (called ∙ ap₂ call same too)

-- with what the call left in the rooms
pub hands : {A C W : Type 0} (f : A → C) {r : C} {x : A} {w : W} {given : A × W} → r ≡ f x → (x, w) ≡ given → (r, w) ≡ answered_as f given
hands {C = C} f {w = w} made called = ap (λ (k : C). (k, w)) made ∙ ap (answered_as f) called

pub hands_on : {A C W S : Type 0} (f : A → C) (call : S → A × W) {r : C} {x : A} {w : W} {s t : S} → r ≡ f x → s ≡ t → (x, w) ≡ call s → (r, w) ≡ answered_as f (call t)
hands_on f call made same called = hands f made (called ∙ ap call same)

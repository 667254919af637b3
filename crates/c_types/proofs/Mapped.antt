-- An array filled, place by place, with what a function makes of another's elements.
use mathlib.Core.Path.{◌≡◌, sym, ap, ◌∙◌}
use Prim.Native.Nat.{ℕ, ◌+◌, ◌≤◌, ◌<◌}
use mathlib.Core.List.{List, map}
use native.Mathlib.Numerals.{add-one}
use native.Mathlib.Omega.{arith}
use lib.ListN.{length, drop, get_or, set, length-map, drop_of_length-le}
use lib.Seq.{drop-cons}
use Rattle.common.proofs.Parts.{over_all}
use Rattle.common.proofs.Writing.{Writing, begin, step_front, done_front}

abbrev pub Mapped : {A B : Type 0} → (A → B) → List A → List B → List B → ℕ → Type 0
Mapped f xs before out c = Writing before 0 (map f xs) (map f (drop c xs)) out c

pub mapped_begin : {A B : Type 0} (f : A → B) (xs : List A) (before : List B) → length before ≡ length xs → Mapped f xs before before 0
mapped_begin f xs before same = begin (omega (arith, same, length-map xs f))

pub mapped_step : {A B : Type 0} (f : A → B) (xs : List A) (before out : List B) (c : ℕ) (none : A) (y : B) → Mapped f xs before out c → c < length xs
    → y ≡ f (get_or xs c none) → Mapped f xs before (set out c y) (c + 1)
mapped_step f xs before out c none y w here made = rw (made, add-one) (rw add-one at (step_front w (ap (map f) (drop-cons xs c none here))))

pub mapped_done : {A B : Type 0} (f : A → B) (xs : List A) (before out : List B) (c : ℕ) → Mapped f xs before out c → length xs ≤ c
    → length before ≡ length xs → out ≡ map f xs
mapped_done f xs before out c w end same =
    done_front w (ap (map f) (drop_of_length-le xs end)) ∙ over_all (map f xs) before (length-map xs f ∙ sym same)

-- The form of every call's meaning: what it answers, in document 01's terms, and what its lent rooms hold afterwards.
use Rattle.std.specs.Prelude.{ℕ, List, [], ◌∷◌, length}
use Rattle.common.specs.Choice.{when◌then◌else◌, ◌<?◌}
use Rattle.common.specs.Lists.{◌over◌}

-- "with the column or cell place for 13, 16, 17, 18, 19 and for 8 in a cell"; a cell by its row, then its column, from 0 on
pub data Place : Type 0 where
  nowhere : Place
  column : ℕ → Place
  cell : ℕ → ℕ → Place

-- what a call gives, or the number and the place of its refusal
pub data Answer (A : Type 0) : Type 0 where
  gives : A → Answer A
  refused : ℕ → Place → Answer A

-- a refusal stays; else on with what was given
abbrev pub on_given : {A B : Type 0} → Answer A → (A → Answer B) → Answer B
on_given (gives a) more = more a
on_given (refused n at) more = refused n at

-- all of them in order, or the first refusal
abbrev pub each : {A B : Type 0} → (A → Answer B) → List A → Answer (List B)
each f [] = gives []
each f (x ∷ xs) = on_given (f x) (λ y. on_given (each f xs) (λ ys. gives (y ∷ ys)))

-- "All lent memory keeps its bytes": the answer of a call, and its rooms, which after a refusal are as they were
abbrev pub outcome : {A W : Type 0} → W → Answer (A × W) → Answer A × W
outcome was (gives x) = (gives x.0, x.1)
outcome was (refused n at) = (refused n at, was)

-- the refusal alone, or that there is none
abbrev pub refusal_of : {A : Type 0} → Answer A → Answer (Unit {0})
refusal_of (gives a) = gives tt
refusal_of (refused n at) = refused n at

-- "7 output too small for the whole result"; else the result's length, and the output with the result written to its front
abbrev pub written_to : {A : Type 0} → List A → List A → Answer (ℕ × List A)
written_to out result = when length out <? length result then refused 7 nowhere else gives (length result, result over out)

-- "16: kind of cell does not suit the column, or is unknown". C hands kinds and types over as numbers: `unknown` of crate cell says which
-- of them are none, of types (0 Int16, 1 Int32, 2 Str, 3 Binary) as of kinds.
use Rattle.std.specs.Prelude.{ℕ}
use Rattle.common.specs.Choice.{when◌then◌else◌}
use Rattle.common.specs.Answers.{Place, nowhere, column, cell, Answer, gives, refused, on_given}
use Rattle.cell.specs.Handed.{unknown}

-- the answer to a value of this kind: one of an unknown kind is refused where a Binary would not be, so 16 comes after 22 and 24
abbrev pub on_kind : {A : Type 0} → Place → ℕ → Answer A → Answer A
on_kind at kind a = when unknown kind then on_given a (λ x. refused 16 at) else a

-- the number of a refusal on columns, where the one at c was handed over with the type `types c`: a bad column of an unknown type
-- is 16
abbrev pub refusal_number : (ℕ → ℕ) → ℕ → Place → ℕ
refusal_number types n nowhere = n
refusal_number types n (column c) = when unknown (types c) then 16 else n
refusal_number types n (cell r c) = n

abbrev pub on_types : {A : Type 0} → (ℕ → ℕ) → Answer A → Answer A
on_types types (gives a) = gives a
on_types types (refused n at) = refused (refusal_number types n at) at

-- Reference numbers and entry places. "A 1-based reference number and a 0-based entry place are kept apart."
use Rattle.std.specs.Prelude.{ℕ, ◌+◌, ◌-◌, ℤ, pos, nat_abs}
use Rattle.common.specs.Answers.{Answer, nowhere, on_given}
use Rattle.common.specs.Refs.{reference}

-- on with the entry place of a reference number
abbrev pub on_reference : {A : Type 0} → ℤ → (ℕ → Answer A) → Answer A
on_reference r more = on_given (reference nowhere r) (λ n. more (nat_abs n - 1))

-- the reference number of an entry place
abbrev pub reference_to : ℕ → ℤ
reference_to place = pos (place + 1)

-- A text that is shown by copying it to an output.
use Rattle.std.specs.Prelude.{ℕ, List}
use Rattle.common.specs.Answers.{Answer, on_given, outcome, written_to}

-- the refusals of showing it, then 7
abbrev pub copied_outcome : Answer (List ℕ) → List ℕ → Answer ℕ × List ℕ
copied_outcome shown out = outcome out (on_given shown (λ t. written_to out t))

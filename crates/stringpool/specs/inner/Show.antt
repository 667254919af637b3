-- What a show answers: a part of the lent text room, read as its bytes.
use Rattle.std.specs.Prelude.{ℕ, List, Result}
use Rattle.std.specs.Borrow.{Bor}
use Rattle.common.specs.Answers.{Answer}
use Rattle.common.specs.Refusals.{answer_as}
use Rattle.common.specs.declared.refusal.Refusal.{Refusal}

abbrev pub shown_as : Result (Bor (List ℕ)) Refusal → Answer (List ℕ)
shown_as shown = answer_as (λ (t : Bor (List ℕ)). t.now) shown

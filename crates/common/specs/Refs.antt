-- Reference numbers: "limits 1 and 16,777,215 belong to the reference number itself".
use Rattle.std.specs.Prelude.{◌||◌, ℤ, pos, Result}
use Rattle.common.specs.Sizes.{max_entries}
use Rattle.common.specs.Choice.{when◌then◌else◌, ◌<ℤ?◌}
use Rattle.common.specs.Answers.{Answer, gives, refused, Place}
use Rattle.common.specs.Refusals.{answer_as}
use Rattle.common.specs.declared.refusal.Refusal.{Refusal}
use Rattle.common.specs.declared.string_ref.StringRef.{StringRef}

-- "8 reference number below 1 or above 16,777,215", in a cell with the cell's place
abbrev pub reference : Place → ℤ → Answer ℤ
reference at n = when n <ℤ? pos 1 || pos max_entries <ℤ? n then refused 8 at else gives n

-- "associated constants and a checked maker on the reference number type"
abbrev pub made_as : Result StringRef Refusal → Answer ℤ
made_as made = answer_as (λ (r : StringRef). r.0) made

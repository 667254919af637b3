use native.Mathlib.Omega.{arith}
use mathlib.Core.Path.{sym}
use Rattle.streamname.proofs.EncodeLaws.{front_passes, front_lone, front_pair}
use Rattle.streamname.proofs.encoding.pack.Goals as goal

pub returns-in_default : goal.returns-in_default
returns-in_default c = front_passes _ _ c.requires (sym c.in_default.ensures)

pub returns-in_default-letter_at : goal.returns-in_default-letter_at
returns-in_default-letter_at c = front_lone _ _ c.requires _ (sym c.in-Some.ensures) (sym c.in_default-letter_at.ensures)

pub returns : goal.returns
returns c = front_pair _ _ c.requires _ (sym c.in-Some.ensures) _ _ (sym c.in-Some-letter_at.ensures) (omega arith)

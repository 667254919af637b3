use mathlib.Core.Path.{ap, ◌∙◌}
use lib.IntN.{ℤ}
use Rattle.std.proofs.lemmas.Result.{err_from_is_err_and}
use Rattle.common.specs.Answers.{refusal_of}
use Rattle.stringpool.specs.Pool.{rooms_of}
use Rattle.stringpool.specs.Show.{show_answer}
use Rattle.c_types.proofs.Numbers.{back}
use Rattle.msi.proofs.Shown.{copy_refused}
use Rattle.msi.proofs.pools.text_to.Goals as goal

pub returns-in_err-get_refusal : goal.returns-in_err-get_refusal
returns-in_err-get_refusal c =
    let w = rooms_of c.args.rooms in
    let why = err_from_is_err_and c.from_residual.result c.from_residual.ensures.1 in
    rw (why.1, why.2)
    (copy_refused (show_answer c.args.pool w c.args.number) c.args.out.now _ _
    (c.in_err-get_refusal.ensures ∙ ap (λ (k : ℤ). refusal_of (show_answer c.args.pool w k)) (back c.args.number c.ranges.number)))

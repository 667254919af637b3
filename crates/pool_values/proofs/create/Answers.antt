use mathlib.Core.Path.{sym, ◌∙◌}
use Rattle.std.specs.Prelude.{Err}
use Rattle.std.proofs.lemmas.Result.{err_from_is_err_and}
use Rattle.stringpool.specs.Pool.{rooms_held}
use Rattle.stringpool.specs.Take.{equal_then_free_lem}
use Rattle.pool_values.proofs.Pools.{create_text}
use Rattle.pool_values.proofs.create.Goals as goal

pub returns-in_err-incref-in-None-clause-outcome : goal.returns-in_err-incref-in-None-clause-outcome
returns-in_err-incref-in-None-clause-outcome c =
    let why = err_from_is_err_and c.from_residual.result c.from_residual.ensures.1 in
    rw (why.1, why.2)
    (create_text c.args.new.now c.args.pool (rooms_held c.args.rooms.now) _ equal_then_free_lem (Err c.in_err-incref-in-None.field-0.0) c.args.value
    (sym c.plain_of.ensures ∙ c.in-None.is) c.in_err-incref-in-None.ensures.outcome)

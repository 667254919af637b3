use mathlib.Core.Path.{◌≡◌}
use native.Mathlib.Omega.{arith}
use lib.ListN.{length, length-take}
use Prim.Native.Nat.{◌≤◌}
use Rattle.common.specs.Answers.{gives}
use Rattle.common.specs.Refusals.{answered}
use Rattle.std.proofs.Common.{rules}
use Rattle.std.proofs.lemmas.Result.{err_from_is_err_and}
use Rattle.stringpool.specs.Pool.{rooms_held}
use Rattle.stringpool.proofs.Loads.{load_refused, stored, copy_given, loaded}
use Rattle.stringpool.proofs.pool.StringPool.load.Goals as goal

pub returns-in_err-plan-clause-outcome : goal.returns-in_err-plan-clause-outcome
returns-in_err-plan-clause-outcome c =
    let e = err_from_is_err_and c.from_residual.result c.from_residual.ensures.1 in
    rw (e.1, e.2) (load_refused c.args.pool.now c.args.texts.now (rooms_held c.args.rooms.now) c.in_err-plan.field-0.0 _ c.in_err-plan.ensures.outcome)

pub slice_bounds-copy_in-end : goal.slice_bounds-copy_in-end
slice_bounds-copy_in-end c =
    let there : c.in_ok-plan.plan.used ≤ length c.args.texts.now = stored c.args.pool.now c.args.texts.now (rooms_held c.args.rooms.now) _ _ _ c.in_ok-plan.ensures.outcome in
    omega (arith, length-take c.in_ok-plan.plan.used c.args.texts.now)

pub unwrap-requires : goal.unwrap-requires
unwrap-requires c =
    let given : answered c.copy_in.result ≡ gives c.in_ok-plan.plan.used = copy_given c.args.pool.now c.args.texts.now (rooms_held c.args.rooms.now) _ _ _ c.in_ok-plan.ensures.outcome _ _ c.copy_in.ensures in
    search rules

pub returns-clause-outcome : goal.returns-clause-outcome
returns-clause-outcome c = loaded c.args.pool.now c.args.texts.now (rooms_held c.args.rooms.now) _ _ _ c.in_ok-plan.ensures.outcome _ c.pool_from.ensures _ _ c.copy_in.ensures

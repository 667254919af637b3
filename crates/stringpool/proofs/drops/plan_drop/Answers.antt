use mathlib.Core.Path.{sym, ap, ◌∙◌}
use Prim.Native.Nat.{ℕ, ◌-◌, ◌<◌}
use native.Mathlib.Omega.{arith}
use lib.ListN.{get_or}
use mir.Syntax.{w32}
use mir.ValLaws.{to_z-of_z}
use Rattle.common.proofs.Sums.{total-le}
use Rattle.order.specs.Order.{drop_fits_lem}
use Rattle.order.proofs.Laws.{drop-fits}
use Rattle.stringpool.specs.Pool.{rooms_of}
use Rattle.stringpool.proofs.Judging.{judged}
use Rattle.stringpool.proofs.Drop.{drops_at, not_dropped, drop_more, drop-last}
use Rattle.stringpool.specs.declared.entry.Plan.TheVariants.{Count}
use Rattle.stringpool.specs.inner.Plan.{put_at}
use Rattle.std.proofs.lemmas.Result.{err_from_is_err_and}
use Rattle.std.proofs.Common.{rules, Ok, Err}
use Rattle.stringpool.proofs.drops.plan_drop.Goals as goal

pub returns-in_err-drop_fits : goal.returns-in_err-drop_fits
returns-in_err-drop_fits c =
    let j = judged c.args.p (rooms_of c.args.rooms) c.in_ok-used.ensures in
    let e = err_from_is_err_and c.from_residual-in_err-drop_fits.result c.from_residual-in_err-drop_fits.ensures.1 in
    rw (e.1, e.2)
    (drops_at c.args.p (rooms_of c.args.rooms) c.args.number c.in_ok-used.ensures (to_z-of_z w32 c.args.number (search rules)) c.in_ok-at.ensures (Err c.in_err-drop_fits.field-0.0)
    (not_dropped c.args.p (rooms_of c.args.rooms) j.fit c.in_ok-at.field-0.0 c.in_err-drop_fits.field-0.0
    (c.in_err-drop_fits.ensures ∙ ap (drop_fits_lem c.args.p.num_strings c.in_ok-at.field-0.0) c.count_of-count.ensures)))

pub returns-then-count-gt1 : goal.returns-then-count-gt1
returns-then-count-gt1 c =
    let j = judged c.args.p (rooms_of c.args.rooms) c.in_ok-used.ensures in
    let k : ℕ = c.in_ok-at.field-0.0 in
    let less : ℕ = c.count_of-count.result - 1 in
    drops_at c.args.p (rooms_of c.args.rooms) c.args.number c.in_ok-used.ensures (to_z-of_z w32 c.args.number (search rules)) c.in_ok-at.ensures (Ok (Count k less))
    (drop_more c.args.p (rooms_of c.args.rooms) j.fit k
    (c.in_ok-drop_fits.ensures ∙ ap (drop_fits_lem c.args.p.num_strings k) c.count_of-count.ensures)
    j.few (omega (arith, c.if-count-gt1.true, c.count_of-count.ensures)) less (omega (arith, c.count_of-count.ensures)))

pub start_of-start-requires : goal.start_of-start-requires
start_of-start-requires c =
    let j = judged c.args.p (rooms_of c.args.rooms) c.in_ok-used.ensures in
    let n : ℕ = c.args.p.num_strings in
    let k : ℕ = c.in_ok-at.field-0.0 in
    let there : k < n = (drop-fits n k c.count_of-count.result (sym c.in_ok-drop_fits.ensures)).0 in
    (omega (arith, there, j.fit.lengths), omega (arith, j.fit.text, j.large, total-le c.args.rooms.lengths.now k n (omega (arith, there))))

pub returns : goal.returns
returns c =
    let j = judged c.args.p (rooms_of c.args.rooms) c.in_ok-used.ensures in
    drops_at c.args.p (rooms_of c.args.rooms) c.args.number c.in_ok-used.ensures (to_z-of_z w32 c.args.number (search rules)) c.in_ok-at.ensures
    (Ok (put_at c.in_ok-at.field-0.0 c.start_of-start.result (get_or c.args.rooms.lengths.now c.in_ok-at.field-0.0 0) c.in_ok-used.used 0))
    (rw (c.start_of-start.ensures, j.sum)
    (drop-last c.args.p (rooms_of c.args.rooms) j.fit c.in_ok-at.field-0.0
    (c.in_ok-drop_fits.ensures ∙ ap (drop_fits_lem c.args.p.num_strings c.in_ok-at.field-0.0) c.count_of-count.ensures)
    j.few j.large (omega (arith, c.if-count-gt1.false, c.count_of-count.ensures))))

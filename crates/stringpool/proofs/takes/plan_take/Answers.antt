use mathlib.Core.Path.{refl}
use Prim.Native.Nat.{ℕ, ◌+◌}
use native.Mathlib.Omega.{arith}
use lib.ListN.{get_or}
use Rattle.common.proofs.Sums.{total-in}
use Rattle.common.specs.declared.refusal.Refusal.TheVariants.{TextRoom}
use Rattle.std.proofs.Common.{Ok, Err}
use Rattle.std.proofs.lemmas.Result.{err_from_is_err_and}
use Rattle.stringpool.specs.Pool.{rooms_of}
use Rattle.stringpool.specs.declared.entry.Plan.TheVariants.{Count}
use Rattle.stringpool.specs.inner.Plan.{put_at}
use Rattle.stringpool.proofs.Taking.{equal-done, free-full, free-done, not_added, added, taken_at}
use Rattle.stringpool.proofs.takes.plan_take.Goals as goal

pub returns-in_err-add_fits : goal.returns-in_err-add_fits
returns-in_err-add_fits c =
    let q = c.requires.known in
    let e = err_from_is_err_and c.from_residual.result c.from_residual.ensures.1 in
    λ by legal is.
    rw (e.1, e.2)
    (taken_at by legal c.args.p (rooms_of c.args.rooms) c.args.new.now c.args.spot is (Err c.in_err-add_fits.field-0.0)
    (not_added c.args.p (rooms_of c.args.rooms) q.judged.fit c.args.new.now c.args.spot.place c.entry_room-entries.result c.args.spot.used
    (omega (arith, c.if-at-p.true, q.within)) c.entry_room-entries.ensures q.judged.sum c.in_err-add_fits.field-0.0 c.in_err-add_fits.ensures))

pub returns-then-at-p : goal.returns-then-at-p
returns-then-at-p c =
    let q = c.requires.known in
    λ by legal is.
    taken_at by legal c.args.p (rooms_of c.args.rooms) c.args.new.now c.args.spot is (Ok (put_at c.args.spot.place c.args.spot.start 0 c.args.spot.used 1))
    (added c.args.p (rooms_of c.args.rooms) q.judged.fit c.args.new.now c.args.spot.place c.entry_room-entries.result c.args.spot.used
    (omega (arith, c.if-at-p.true, q.within)) c.entry_room-entries.ensures q.judged.sum c.args.spot.start q.begins c.in_ok-add_fits.ensures q.small q.judged.large)

pub returns-then-count-gt0 : goal.returns-then-count-gt0
returns-then-count-gt0 c =
    let q = c.requires.known in
    let more : ℕ = get_or c.args.rooms.counts.now c.args.spot.place 0 + 1 in
    λ by legal is.
    taken_at by legal c.args.p (rooms_of c.args.rooms) c.args.new.now c.args.spot is (Ok (Count c.args.spot.place more))
    (equal-done c.args.p (rooms_of c.args.rooms) q.judged.fit c.args.new.now c.args.spot.place c.if-at-p.false q.judged.few c.if-count-gt0.true more refl)

pub overflow_sub-used : goal.overflow_sub-used
overflow_sub-used c =
    let q = c.requires.known in
    omega (arith, q.judged.sum, total-in c.args.rooms.lengths.now c.args.spot.place c.args.p.num_strings c.if-at-p.false q.judged.fit.lengths)

pub returns-then-used-old : goal.returns-then-used-old
returns-then-used-old c =
    let q = c.requires.known in
    λ by legal is.
    taken_at by legal c.args.p (rooms_of c.args.rooms) c.args.new.now c.args.spot is (Err TextRoom)
    (free-full c.args.p (rooms_of c.args.rooms) q.judged.fit c.args.new.now c.args.spot.place c.if-at-p.false (omega (arith, c.if-count-gt0.false))
    (omega (arith, q.judged.sum, c.if-used-old.true)))

pub returns : goal.returns
returns c =
    let q = c.requires.known in
    λ by legal is.
    taken_at by legal c.args.p (rooms_of c.args.rooms) c.args.new.now c.args.spot is (Ok (put_at c.args.spot.place c.args.spot.start (get_or c.args.rooms.lengths.now c.args.spot.place 0) c.args.spot.used 1))
    (rw (q.begins, q.judged.sum)
    (free-done c.args.p (rooms_of c.args.rooms) q.judged.fit c.args.new.now c.args.spot.place c.if-at-p.false (omega (arith, c.if-count-gt0.false))
    q.judged.few q.small q.judged.large (omega (arith, q.judged.sum, c.if-used-old.false))))

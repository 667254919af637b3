use Rattle.std.proofs.Common.{◌+◌, refl, ◌∙◌, arith}
use Rattle.pool_entries.specs.Entries.{Rooms}
use Rattle.pool_entries.specs.Rooms.{rooms_of}
use Rattle.pool_entries.proofs.Sums.{each-join, each_next}
use Rattle.pool_entries.proofs.Look.{sum-next, compared, up_length, up_passed}
use Rattle.pool_entries.proofs.choosing.scan.Goals as goal

pub returns-then-up_by_end : goal.returns-then-up_by_end
returns-then-up_by_end c =
    let W : Rooms = rooms_of c.args.entries.rooms in
    let x = c.length_at-length in
    record {
      after = omega arith;
      within = omega arith;
      sum = c.loop-i.invariant.3;
      before = c.loop-i.invariant.4;
      here = λ h fit. compared c.args.entries.n W c.args.new.now c.loop-i.i c.loop-i.start x.result c.up_by_end.result (omega arith) x.ensures.0 (omega arith) c.loop-i.invariant.3.is c.up_by_end.ensures fit ∙ c.if-up_by_end.true;
    }

pub loop-i-preserved-then-length-size : goal.loop-i-preserved-then-length-size
loop-i-preserved-then-length-size c =
    let W : Rooms = rooms_of c.args.entries.rooms in
    let x = c.length_at-length in (
      omega arith,
      omega arith,
      c.loop-i.invariant.2,
      sum-next c.args.entries.rooms.lengths.now c.loop-i.i c.loop-i.start x.result (omega arith) x.ensures.0 x.ensures.1 c.loop-i.invariant.3,
      λ fit. each_next (c.loop-i.invariant.4 fit)
          (compared c.args.entries.n W c.args.new.now c.loop-i.i c.loop-i.start x.result c.up_by_end.result (omega arith) x.ensures.0 (omega arith) c.loop-i.invariant.3.is c.up_by_end.ensures fit ∙ c.if-up_by_end.false),
    )

pub skip-s-requires : goal.skip-s-requires
skip-s-requires c =
    let x = c.length_at-length in
    (omega arith, omega arith, omega arith, sum-next c.args.entries.rooms.lengths.now c.loop-i.i c.loop-i.start x.result (omega arith) x.ensures.0 x.ensures.1 c.loop-i.invariant.3)

pub loop-i-preserved : goal.loop-i-preserved
loop-i-preserved c =
    let W : Rooms = rooms_of c.args.entries.rooms in
    let x = c.length_at-length in
    let r = c.skip-s.ensures in (
      omega (arith, r.after),
      r.within,
      refl,
      r.sum,
      λ fit. each-join
          (each_next (c.loop-i.invariant.4 fit) (up_length c.args.entries.n W c.args.new.now fit c.loop-i.i (omega arith) (λ e. c.if-length-size.false (x.ensures.0 ∙ e))))
          (up_passed c.args.entries.n W c.args.new.now fit (c.loop-i.i + 1) c.skip-s.result.0 (omega (arith, r.within)) r.others),
    )

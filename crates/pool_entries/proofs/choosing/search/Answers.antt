use Rattle.std.proofs.Common.{◌≡◌, take, arith, rules, ◌∙◌}
use Rattle.std.specs.Slice.Iter.{chunks_rest}
use Rattle.pool_entries.specs.Entries.{Rooms}
use Rattle.pool_entries.specs.Rooms.{rooms_of}
use Rattle.pool_entries.proofs.FirstFree.{left-all, block-ends, left-next, free-block}
use Rattle.pool_entries.proofs.Look.{found_here, found_later, found_none}
use Rattle.pool_entries.proofs.choosing.search.Goals as goal

pub loop-block-init : goal.loop-block-init
loop-block-init c =
    let e = c.args.entries in
    let all : chunks_rest c.into_iter-block-iterator.result ≡ take e.n e.rooms.counts.now = search rules in (
      search rules,
      left-all e.rooms.counts.now e.n _ (omega arith) all,
      search rules,
      λ k a b. absurd (omega arith),
      λ fit k a b. absurd (omega arith),
    )

pub scan-s-requires-clause-in_bounds : goal.scan-s-requires-clause-in_bounds
scan-s-requires-clause-in_bounds c =
    let e = c.args.entries in
    let l = c.loop-block in
    (omega arith, omega (arith, c.first_in.ensures.within, block-ends e.rooms.counts.now e.n l.i _ c.in-Some.block.now _ (omega arith) l.invariant.1 c.in-Some.ensures.steps.1.0), c.requires)

pub returns-then-s-to : goal.returns-then-s-to
returns-then-s-to c =
    let e = c.args.entries in
    let W : Rooms = rooms_of e.rooms in
    let l = c.loop-block in
    let steps = c.in-Some.ensures.steps in
    let b = c.in-Some.block.now in
    found_here e.n W c.args.new.now l.i _ _ _ _ (block-ends W.counts e.n l.i _ b _ (omega arith) l.invariant.1 steps.1.0) l.invariant.3 l.invariant.4
    (free-block W.counts e.n l.i _ b _ (omega arith) l.invariant.1 steps.1.0 c.first_in.ensures) c.scan-s.ensures c.if-s-to.true

pub loop-block-preserved : goal.loop-block-preserved
loop-block-preserved c =
    let e = c.args.entries in
    let W : Rooms = rooms_of e.rooms in
    let l = c.loop-block in
    let steps = c.in-Some.ensures.steps in
    let b = c.in-Some.block.now in
    let p = found_later e.n W c.args.new.now l.i _ _ _ _ (block-ends W.counts e.n l.i _ b _ (omega arith) l.invariant.1 steps.1.0) l.invariant.3 l.invariant.4
    (free-block W.counts e.n l.i _ b _ (omega arith) l.invariant.1 steps.1.0 c.first_in.ensures) c.scan-s.ensures c.if-s-to.false in (
      steps.0 ∙ l.invariant.0,
      left-next W.counts e.n l.i _ b _ (omega arith) l.invariant.1 steps.1.0,
      p.0,
      p.1,
      p.2,
    )

pub returns : goal.returns
returns c =
    let e = c.args.entries in
    let l = c.loop-block in
    found_none e.n (rooms_of e.rooms) c.args.new.now l.i l.start (omega (arith, l.invariant.1.whole, c.in-None.ensures.steps.1.0)) l.invariant.2 l.invariant.3 l.invariant.4

use Rattle.std.proofs.Common.{◌≡◌, ◌∙◌, arith}
use Rattle.pool_entries.specs.Entries.{Rooms}
use Rattle.pool_entries.specs.Rooms.{rooms_of}
use Rattle.pool_entries.proofs.FirstFree.{free-front}
use Rattle.pool_entries.proofs.Look.{prefers_up, prefers_free}
use Rattle.pool_entries.proofs.preferring.equal_then_free.Goals as goal

pub returns-then-s-n : goal.returns-then-s-n
returns-then-s-n c =
    let W : Rooms = rooms_of c.args.entries.rooms in
    let u = c.scan-s.ensures in
    record { chosen = prefers_up c.args.entries.n W c.args.new.now c.requires.0 _ _ u (omega (arith, u.within, c.if-s-n.true)); sum = u.sum.is }

pub returns-then-free-n : goal.returns-then-free-n
returns-then-free-n c =
    let W : Rooms = rooms_of c.args.entries.rooms in
    let u = c.scan-s.ensures in
    let f = c.first_free-free in
    let z = free-front W.counts c.args.entries.n (omega arith) f.ensures in
    record { chosen = prefers_free c.args.entries.n W c.args.new.now c.requires.0 _ _ u f.result c.if-s-n.false z; sum = c.add_up-before.ensures.sum }

-- with no free entry either, the place after the last, where the search ended
pub returns : goal.returns
returns c =
    let W : Rooms = rooms_of c.args.entries.rooms in
    let u = c.scan-s in
    let f = c.first_free-free in
    let z = free-front W.counts c.args.entries.n (omega arith) f.ensures in
    let e : u.result.0 ≡ f.result = omega (arith, u.ensures.within, z.within, c.if-s-n.false, c.if-free-n.false) in
    record { chosen = e ∙ prefers_free c.args.entries.n W c.args.new.now c.requires.0 _ _ u.ensures f.result c.if-s-n.false z; sum = u.ensures.sum.is }

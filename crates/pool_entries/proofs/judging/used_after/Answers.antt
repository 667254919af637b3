use Rattle.std.proofs.Common.{take, sym, ◌∙◌, arith}
use Rattle.pool_entries.specs.Rooms.{rooms_of}
use Rattle.pool_entries.proofs.Sums.{sum-part, short-part}
use Rattle.pool_entries.proofs.Sound.{small-zip, used_over, used_sound, used_unsound, used_short}
use Rattle.pool_entries.proofs.judging.used_after.Goals as goal

pub returns-then-used-text : goal.returns-then-used-text
returns-then-used-text c =
    let e = c.args.entries in
    used_over e.n (rooms_of e.rooms) (omega arith) (omega arith) _ (sum-part e.rooms.lengths.now c.args.at e.n c.requires.at_in_bounds c.requires.sum_to.0.is c.add_up-s.ensures.sum) c.if-used-text.true

pub returns-then-s-le65535 : goal.returns-then-s-le65535
returns-then-s-le65535 c =
    let e = c.args.entries in
    let at = c.requires.at_in_bounds in
    used_short e.n (rooms_of e.rooms) (omega arith) (omega arith) _ (sum-part e.rooms.lengths.now c.args.at e.n at c.requires.sum_to.0.is c.add_up-s.ensures.sum) c.if-used-text.false
    c.args.at at c.requires.sum_to.1 (short-part e.rooms.lengths.now c.args.at e.n at (omega arith) (c.add_up-s.ensures.short c.if-s-le65535.true))

pub returns-then-all_small : goal.returns-then-all_small
returns-then-all_small c =
    let e = c.args.entries in
    used_sound e.n (rooms_of e.rooms) (omega arith) (omega arith) _ (sum-part e.rooms.lengths.now c.args.at e.n c.requires.at_in_bounds c.requires.sum_to.0.is c.add_up-s.ensures.sum) c.if-used-text.false
    (sym (c.all_small.ensures ∙ small-zip (take e.n e.rooms.lengths.now) (take e.n e.rooms.counts.now)) ∙ c.if-all_small.true)

pub returns : goal.returns
returns c =
    let e = c.args.entries in
    used_unsound e.n (rooms_of e.rooms) (omega arith) (omega arith) _ (sum-part e.rooms.lengths.now c.args.at e.n c.requires.at_in_bounds c.requires.sum_to.0.is c.add_up-s.ensures.sum) c.if-used-text.false
    (sym (c.all_small.ensures ∙ small-zip (take e.n e.rooms.lengths.now) (take e.n e.rooms.counts.now)) ∙ c.if-all_small.false)

use Rattle.std.proofs.Common.{rules}
use Rattle.text_room.proofs.Splice.{splice-two, splice-more, splice-less}
use Rattle.text_room.proofs.text.put.Goals as goal

pub returns-then-end-used : goal.returns-then-end-used
returns-then-end-used c =
    let q = c.requires in
    splice-less c.args.text.now c.args.part.start c.args.part.old c.args.part.used c.args.new.now q.0 q.1 q.2 _ _ c.if-end-used.true
    (splice-two c.args.text.now c.args.part.start c.args.part.old c.args.part.used c.args.new.now q.0 q.1 q.2 _ _ c.copy_within.ensures.after c.copy_from_slice.ensures.after)
    (c.fill.ensures.after (search rules))

pub returns-else-end-used : goal.returns-else-end-used
returns-else-end-used c =
    let q = c.requires in
    splice-more c.args.text.now c.args.part.start c.args.part.old c.args.part.used c.args.new.now q.0 q.1 q.2 _ c.if-end-used.false
    (splice-two c.args.text.now c.args.part.start c.args.part.old c.args.part.used c.args.new.now q.0 q.1 q.2 _ _ c.copy_within.ensures.after c.copy_from_slice.ensures.after)

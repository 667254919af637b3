use Rattle.stringpool.specs.Pool.{rooms}
use Rattle.stringpool.specs.Show.{show_answer}
use Rattle.c_types.proofs.Numbers.{back}
use Rattle.msi.proofs.Shown.{refusal_kept}
use Rattle.msi.proofs.pools.strandroost_get_refusal.Goals as goal

pub returns : goal.returns
returns c =
    simp (c.from.ensures, c.told.ensures, c.get_refusal.ensures, back c.args.number c.ranges.number)
    (refusal_kept (show_answer c.args.pool (rooms c.args.lengths.now c.args.counts.now c.args.text.now) c.args.number))

use mathlib.Core.Path.{ap, ◌∙◌}
use Rattle.pool_entries.specs.Calls.{choose_answer}
use Rattle.pool_entries.proofs.Places.{equal-then_free}
use Rattle.stringpool.specs.Pool.{Rooms}
use Rattle.stringpool.specs.Take.{equal_then_free_lem}
use Rattle.stringpool.proofs.Taking.{chosen_by}
use Rattle.stringpool.proofs.pool.StringPool.incref.Goals as goal

pub take_chosen-requires : goal.take_chosen-requires
take_chosen-requires c =
    chosen_by equal_then_free_lem equal-then_free
    (c.in_ok-spot.ensures ∙ ap (λ (w : Rooms). choose_answer equal_then_free_lem c.args.self.num_strings c.args.self.codepage w c.args.new.now) c.view.ensures)

pub returns-clause-outcome : goal.returns-clause-outcome
returns-clause-outcome c =
    c.take_chosen.ensures.outcome equal_then_free_lem equal-then_free
    (c.in_ok-spot.ensures ∙ ap (λ (w : Rooms). choose_answer equal_then_free_lem c.args.self.num_strings c.args.self.codepage w c.args.new.now) c.view.ensures)

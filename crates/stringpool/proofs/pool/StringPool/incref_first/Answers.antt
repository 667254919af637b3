use mathlib.Core.Path.{ap, ◌∙◌}
use Rattle.pool_entries.specs.Calls.{choose_answer}
use Rattle.pool_entries.proofs.Places.{first-free-or-equal}
use Rattle.stringpool.specs.Pool.{Rooms}
use Rattle.stringpool.specs.Take.{first_free_or_equal}
use Rattle.stringpool.proofs.Taking.{chosen_by}
use Rattle.stringpool.proofs.pool.StringPool.incref_first.Goals as goal

pub take_chosen-requires : goal.take_chosen-requires
take_chosen-requires c =
    chosen_by first_free_or_equal first-free-or-equal
    (c.in_ok-spot.ensures ∙ ap (λ (w : Rooms). choose_answer first_free_or_equal c.args.self.num_strings c.args.self.codepage w c.args.new.now) c.view.ensures)

pub returns-clause-outcome : goal.returns-clause-outcome
returns-clause-outcome c =
    c.take_chosen.ensures.outcome first_free_or_equal first-free-or-equal
    (c.in_ok-spot.ensures ∙ ap (λ (w : Rooms). choose_answer first_free_or_equal c.args.self.num_strings c.args.self.codepage w c.args.new.now) c.view.ensures)

use mathlib.Core.Path.{ap, ap₂, ◌∙◌}
use Rattle.std.proofs.Common.{rules}
use Rattle.stringpool.specs.Pool.{Rooms, rooms, rooms_held}
use Rattle.stringpool.specs.Take.{first_free_or_equal}
use Rattle.cell.specs.Kinds.{value_kind, value_number}
use Rattle.cell.specs.declared.value.Value.{Value}
use Rattle.pool_values.specs.Pooled.{create_outcome}
use Rattle.c_types.specs.Values.{plain_in_lem}
use Rattle.c_types.specs.declared.answers.CreateAnswer.{CreateAnswer}
use Rattle.c_types.proofs.Numbers.{back}
use Rattle.msi.proofs.UnknownKinds.{creates, created_for_c}
use Rattle.msi.proofs.values.strandroost_create_first.Goals as goal

pub returns : goal.returns
returns c =
    let w = rooms c.args.lengths.now c.args.counts.now c.args.text.now in
    let value-is = c.plain_in.ensures ∙ ap (plain_in_lem c.args.kind) (back c.args.number c.ranges.number) in
    ap₂ (λ (k : CreateAnswer) (r : Rooms). (k, r)) (c.from.ensures ∙ ap created_for_c c.of_kind.ensures) (search rules)
    ∙ creates first_free_or_equal c.args.kind c.args.number c.args.new.now c.args.pool w (rooms_held c.create_first-created.new.rooms) c.create_first-created.result
    (c.create_first-created.ensures.outcome ∙ ap (λ (v : Value). create_outcome first_free_or_equal (value_kind v) (value_number v) c.args.new.now c.args.pool w) value-is)

use mathlib.Core.Path.{ap, ◌∙◌}
use Prim.Native.Nat.{ℕ}
use Rattle.std.proofs.lemmas.Result.{err_from_is_err_and}
use Rattle.stringpool.specs.Pool.{rooms_of}
use Rattle.cell.specs.Kinds.{ref_kind, ref_number}
use Rattle.cell.specs.declared.value.ValueRef.{ValueRef}
use Rattle.pool_values.specs.Pooled.{text_answer, shown_answer}
use Rattle.c_types.specs.Answers.{told_lem, answered_as}
use Rattle.c_types.specs.Values.{value_in_lem}
use Rattle.c_types.proofs.Numbers.{back}
use Rattle.msi.proofs.Shown.{kind_refused}
use Rattle.msi.proofs.values.text_to.Goals as goal

pub returns-in_err-to_value : goal.returns-in_err-to_value
returns-in_err-to_value c =
    let w = rooms_of c.args.rooms in
    let v = value_in_lem c.args.kind c.args.number in
    let value-is = c.value_in-value.ensures ∙ ap (value_in_lem c.args.kind) (back c.args.number c.ranges.number) in
    let why = err_from_is_err_and c.from_residual.result c.from_residual.ensures.1 in
    rw (why.1, why.2)
    (ap (answered_as (told_lem {A = ℕ}))
    (kind_refused (text_answer (ref_kind v) (ref_number v) c.args.pool w) _ c.args.kind c.args.out.now _ _
    (c.in_err-to_value.ensures ∙ ap (λ (x : ValueRef). shown_answer (ref_kind x) (ref_number x) c.args.pool w) value-is)))

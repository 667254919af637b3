use Rattle.std.specs.Result.{IsErrAnd}
use Rattle.std.specs.Prelude.{Result, Ok, Err}
use Rattle.common.specs.declared.refusal.Refusal.{Refusal}
use Rattle.common.specs.Refusals.{answered, refused_by}
use Rattle.widths.specs.declared.widths.Widths.{Widths}
use Rattle.widths.specs.Widths.{widths_for}
use Rattle.widths.specs.Judged.{used_types}
use Rattle.widths.proofs.Judged.{at_stop, judged-is, columns_refused}
use lib.Seq.{get_or-take}
use Rattle.widths.proofs.Judged.{no_column, used, columns_next, at_turn, form_said, form_made}
use Rattle.widths.specs.Judged.{used_columns, sound_column}
use Rattle.widths.specs.Widths.{widths_in}
use Rattle.cell.proofs.Cells.{width-le, form-width}
use Rattle.cell.specs.Cells.{width}
use Rattle.cell.specs.Forms.{form_answer}
use Rattle.cell.specs.declared.form.ColumnType.{ColumnType}
use Rattle.column.specs.declared.column.Column.{Column}
use Rattle.common.proofs.Parts.{over_set}
use Rattle.common.specs.Answers.{gives, refusal_of}
use lib.ListN.{length, get_or, drop, length-set}
use native.Mathlib.Omega.{arith}
use Prim.Native.Nat.{ℕ, ◌+◌, ◌<◌}
use mathlib.Core.List.{List, ◌∷◌, map}
use mathlib.Core.Path.{◌≡◌, sym, ap, ◌∙◌}
use Rattle.widths.proofs.widths.widths_of.Goals as goal

-- What is still to be stored, stored over what there is, and what the columns that are left say, stay the same
-- in each turn.
-- the types of the columns from c on
abbrev typesFrom : ℕ → List Column → ℕ → List ColumnType
typesFrom c columns count = map (λ (x : Column). x.coltype) (drop c (used_columns columns count))

-- a refusal that is passed on
passed_on : (r : Result Widths Refusal) (why : Refusal) → IsErrAnd r (λ y. y ≡ why) → answered r ≡ refused_by why
passed_on (Ok x) why e = absurd e
passed_on (Err y) why e = ap refused_by e

pub returns-in_err-form : goal.returns-in_err-form
returns-in_err-form c =
    let this : Column = get_or c.args.columns c.loop-c.c no_column in
    let few = c.if-count-gt-MAX_COLUMNS.false in
    let whole : length c.args.columns ≡ 64 = c.well_formed.0.1.0.1 in
    let within : c.loop-c.c < c.args.count = rw (used c.args.columns c.args.count few whole) at c.loop-c-test.true in
    let next : drop c.loop-c.c (used_columns c.args.columns c.args.count) ≡ this ∷ drop (c.loop-c.c + 1) (used_columns c.args.columns c.args.count) = columns_next c.args.columns c.args.count few whole c.loop-c.c within in
    let long = c.args.long_string_refs in
    let formed : refused_by c.in_err-form.field-0.0 ≡ form_answer c.loop-c.c this.coltype long = rw (get_or-take c.args.count c.args.columns c.loop-c.c no_column within) at c.in_err-form.ensures in
    let l = c.loop-c in
    let stop = at_stop sound_column this (drop (l.c + 1) (used_columns c.args.columns c.args.count)) l.c _ _ (sym (form_said l.c this long) ∙ ap refusal_of (sym formed)) in
    let all = stop ∙ rw next at l.invariant.4 in
    passed_on c.from_residual.result _ c.from_residual.ensures.1
    ∙ columns_refused {A = Widths} c.args.columns c.args.count (gives (widths_for (used_types c.args.columns c.args.count) long)) _ _ (all ∙ ap refusal_of (sym (judged-is c.args.columns c.args.count few)))

pub loop-c-preserved : goal.loop-c-preserved
loop-c-preserved c =
    let this : Column = get_or c.args.columns c.loop-c.c no_column in
    let whole : length c.args.columns ≡ 64 = c.well_formed.0.1.0.1 in
    let within : c.loop-c.c < c.args.count = rw (used c.args.columns c.args.count c.if-count-gt-MAX_COLUMNS.false whole) at c.loop-c-test.true in
    let next : drop c.loop-c.c (used_columns c.args.columns c.args.count) ≡ this ∷ drop (c.loop-c.c + 1) (used_columns c.args.columns c.args.count) = columns_next c.args.columns c.args.count c.if-count-gt-MAX_COLUMNS.false whole c.loop-c.c within in
    let long = c.args.long_string_refs in
    let formed : gives c.in_ok-form.field-0 ≡ form_answer c.loop-c.c this.coltype long = rw (get_or-take c.args.count c.args.columns c.loop-c.c no_column within) at c.in_ok-form.ensures in
    let said : gives tt ≡ refusal_of (sound_column c.loop-c.c this) = ap refusal_of formed ∙ form_said c.loop-c.c this long in
    let width_is : c.width-width.result ≡ width this.coltype long = rw (form_made c.loop-c.c this.coltype long c.in_ok-form.field-0 formed) at c.width-width.ensures ∙ sym (form-width long this.coltype) in
    let l = c.loop-c in
    let w = width this.coltype long in
    let n = next in
    let few = c.if-count-gt-MAX_COLUMNS.false in
    let sum = rw n at l.invariant.3 in (
      omega (arith, width_is, width-le this.coltype long),
      length-set l.widths l.c c.width-width.result ∙ l.invariant.1,
      rw width_is (over_set w (widths_in (typesFrom (l.c + 1) c.args.columns c.args.count) long) l.widths l.c (omega arith) ∙ rw n at l.invariant.2),
      rw width_is (omega arith),
      at_turn sound_column this (drop (l.c + 1) (used_columns c.args.columns c.args.count)) l.c (sym said) ∙ rw n at l.invariant.4,
    )

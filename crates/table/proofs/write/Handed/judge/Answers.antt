use Rattle.std.proofs.lemmas.Result.{err_from_is_err_and}
use Rattle.common.proofs.Answers.{each_turn, each-stop, each-end}
use Rattle.table.proofs.Layouts.{bytes_in, judge-said, all_judged}
use mathlib.Core.Path.{sym, ◌∙◌}
use Rattle.table.proofs.write.Handed.judge.Goals as goal

pub returns-in_err-judge_column : goal.returns-in_err-judge_column
returns-in_err-judge_column c =
    let s = c.args.self.now in
    let t = s.table.now in
    let l = c.loop-column in
    let said = judge-said t s.rows s.kinds.now s.numbers.now s.whole s.narrow s.few s.kinds_are s.numbers_are l.column c.loop-column-test.true in
    let why = err_from_is_err_and c.from_residual.result c.from_residual.ensures.1 in
    rw (why.1, why.2)
    (each-stop (bytes_in t s.rows s.kinds.now s.numbers.now s.whole s.narrow s.few s.kinds_are s.numbers_are) l.column t.count c.loop-column-test.true _ _
    (sym said ∙ sym (rw (c.form.ensures, c.run.ensures) at c.in_err-judge_column.ensures))
    ∙ l.invariant ∙ sym (all_judged t s.rows s.kinds.now s.numbers.now s.whole s.narrow s.few s.kinds_are s.numbers_are))

pub loop-column-preserved : goal.loop-column-preserved
loop-column-preserved c =
    let s = c.args.self.now in
    let t = s.table.now in
    let l = c.loop-column in
    let said = judge-said t s.rows s.kinds.now s.numbers.now s.whole s.narrow s.few s.kinds_are s.numbers_are l.column c.loop-column-test.true in
    each_turn (bytes_in t s.rows s.kinds.now s.numbers.now s.whole s.narrow s.few s.kinds_are s.numbers_are) l.column t.count c.loop-column-test.true
    (sym said ∙ sym (rw (c.form.ensures, c.run.ensures) at c.in_ok-judge_column.ensures)) ∙ l.invariant

pub returns : goal.returns
returns c =
    let s = c.args.self.now in
    let t = s.table.now in
    let l = c.loop-column in
    each-end (bytes_in t s.rows s.kinds.now s.numbers.now s.whole s.narrow s.few s.kinds_are s.numbers_are) l.column t.count c.loop-column-test.false
    ∙ l.invariant ∙ sym (all_judged t s.rows s.kinds.now s.numbers.now s.whole s.narrow s.few s.kinds_are s.numbers_are)

use Rattle.std.proofs.Common.{◌∙◌, ap, arith, sym}
use Rattle.commands.specs.Words.{value_of}
use Rattle.commands.proofs.Laws.{value_stop, value_full, value_turn, value_end}
use Rattle.commands.proofs.words.Words.number.Goals as goal

pub returns-then-not-is_ascii_digit : goal.returns-then-not-is_ascii_digit
returns-then-not-is_ascii_digit c =
    value_stop c.loop-b.sum c.rest-rest.result.now c.loop-b.b-index c.loop-b-test.true (sym c.is_ascii_digit.ensures.value ∙ c.if-not-is_ascii_digit.true)
    ∙ sym c.loop-b.invariant.value ∙ ap (value_of 0) c.rest-rest.ensures

pub returns-then-sum-gt999999999 : goal.returns-then-sum-gt999999999
returns-then-sum-gt999999999 c =
    value_full c.loop-b.sum c.rest-rest.result.now c.loop-b.b-index c.loop-b-test.true (sym c.is_ascii_digit.ensures.value ∙ c.if-not-is_ascii_digit.false) c.if-sum-gt999999999.true
    ∙ sym c.loop-b.invariant.value ∙ ap (value_of 0) c.rest-rest.ensures

pub loop-b-preserved : goal.loop-b-preserved
loop-b-preserved c = record {
  value = c.loop-b.invariant.value
      ∙ value_turn c.loop-b.sum c.rest-rest.result.now c.loop-b.b-index c.loop-b-test.true (sym c.is_ascii_digit.ensures.value ∙ c.if-not-is_ascii_digit.false) c.if-sum-gt999999999.false;
  bound = omega (arith, c.if-not-is_ascii_digit.ensures.cases);
}

pub returns : goal.returns
returns c =
    value_end c.loop-b.sum c.rest-rest.result.now c.loop-b.b-index c.loop-b-test.false ∙ sym c.loop-b.invariant.value ∙ ap (value_of 0) c.rest-rest.ensures

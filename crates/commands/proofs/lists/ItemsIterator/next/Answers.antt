use Rattle.std.proofs.Common.{rules, arith}
use Rattle.commands.proofs.Laws.{items_fewer}
use Rattle.commands.proofs.lists.ItemsIterator.next.Goals as goal

pub returns-clause-goes : goal.returns-clause-goes
returns-clause-goes c =
    let s = c.args.self.now in
    let n = c.step in
    let t = n.new.self in
    record {
      on = λ _. (search rules, search rules, items_fewer s.item.words.text.now t.words.text.now s.item.words.at s.item.left s.end t.words.at t.left n.ensures.0.0 n.ensures.0.1 n.ensures.1 (omega (arith, c.if-here-min.false)));
      keeps = search rules;
      rests = search rules;
    }

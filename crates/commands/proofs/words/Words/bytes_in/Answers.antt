use Rattle.std.proofs.Common.{◌≡◌, ◌-◌, ◌∙◌, ap, ℕ, List, length, arith, rules, min}
use Rattle.commands.proofs.Laws.{listed-length, listed_next, listed-end, stored}
use Rattle.commands.specs.Words.{pair_over, times_at_lem}
use Rattle.common.proofs.Writing.{begin, step_front, done_front}
use Rattle.commands.proofs.words.Words.bytes_in.Goals as goal

pub loop-k-init : goal.loop-k-init
loop-k-init c =
    let n = c.min-n.result in
    let s = c.args in
    let whole : n - 0 ≡ n = omega arith in
    rw whole (begin (omega (arith, listed-length (pair_over s.self.text.now s.self.at c.pairs-once.result) 0 n)))

pub loop-k-preserved : goal.loop-k-preserved
loop-k-preserved c =
    let l = c.loop-k in
    let s = c.args.self in
    let next = listed_next (pair_over s.text.now s.at c.pairs-once.result) l.k c.min-n.result c.loop-k-test.true in
    rw c.pair.ensures (step_front l.invariant next)

pub returns : goal.returns
returns c =
    let l = c.loop-k in
    let s = c.args in
    let f = pair_over s.self.text.now s.self.at c.pairs-once.result in
    let n = c.min-n.result in
    let fewer : n ≡ min (length s.out.now) c.product.result = search rules in
    let left = done_front l.invariant (listed-end f l.k n c.loop-k-test.false) in
    stored s.self.text.now s.self.at _ _ _ _ n l.out s.out.now c.end-end.ensures.1 c.pairs-once.ensures (c.times.ensures ∙ ap (λ (t : List ℕ). times_at_lem t c.end-end.result.at) c.end-end.ensures.0) c.product.ensures fewer left

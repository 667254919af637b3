use Rattle.std.proofs.Common.{◌≡◌, length, sym, ◌∙◌, arith, rules}
use Rattle.std.proofs.Math.Seq.{take-length}
use Rattle.std.specs.Slice.Iter.{chunks_rest}
use Rattle.pool_entries.proofs.FirstFree.{left-all, left-next, found-in, counted-block}
use Rattle.pool_entries.proofs.frees.first_free.Goals as goal

pub loop-block-init : goal.loop-block-init
loop-block-init c =
    let cs = c.args.counts.now in
    let all : chunks_rest c.into_iter-block-iterator.result ≡ cs = search rules in
    (search rules, left-all cs (length cs) _ (omega arith) (all ∙ sym (take-length cs)), λ k a b. absurd (omega arith))

pub loop-block-preserved : goal.loop-block-preserved
loop-block-preserved c =
    let cs = c.args.counts.now in
    let l = c.loop-block in
    let steps = c.in-Some.ensures.steps in (
      steps.0 ∙ l.invariant.0,
      left-next cs (length cs) l.passed _ c.in-Some.block.now _ (omega arith) l.invariant.1 steps.1.0,
      counted-block cs (length cs) l.passed _ c.in-Some.block.now _ (omega arith) l.invariant.1 steps.1.0 l.invariant.2 c.first_in-free.ensures c.if-free-block.false,
    )

pub returns-then-free-block : goal.returns-then-free-block
returns-then-free-block c =
    let cs = c.args.counts.now in
    let l = c.loop-block in
    found-in cs (length cs) l.passed _ c.in-Some.block.now _ (omega arith) l.invariant.1 c.in-Some.ensures.steps.1.0 l.invariant.2 c.first_in-free.ensures c.if-free-block.true

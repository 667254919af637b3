use Rattle.std.proofs.Common.{length, ap, ◌∙◌, arith}
use Rattle.std.specs.Option.{unwrap_or}
use Rattle.pool_entries.proofs.FirstFree.{none-free, found_free}
use Rattle.pool_entries.proofs.frees.first_in.Goals as goal

pub returns-then-contains : goal.returns-then-contains
returns-then-contains c = found_free c.args.counts.now _ (c.unwrap_or.ensures ∙ ap (λ (o : _). unwrap_or o (length c.args.counts.now)) c.first.ensures)

pub returns : goal.returns
returns c = none-free c.args.counts.now (λ k h. c.if-contains.ensures.cases k 0 (omega arith) h)

use Rattle.std.proofs.Common.{arith}
use Rattle.pool_entries.proofs.Bytes.{by_word}
use Rattle.pool_entries.proofs.same.same_eight.Goals as goal

pub returns : goal.returns
returns c =
    by_word c.args.a.now c.args.b.now c.args.at c.eight.result c.eight-2.result (omega (arith, c.requires)) (omega (arith, c.requires))
    (λ i. omega (arith, c.type_inv.a i)) (λ i. omega (arith, c.type_inv.b i)) c.eight.ensures c.eight-2.ensures

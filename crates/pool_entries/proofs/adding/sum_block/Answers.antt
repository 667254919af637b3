use Rattle.std.proofs.Common.{arith}
use Rattle.pool_entries.proofs.Sums.{sum-all}
use Rattle.pool_entries.proofs.adding.sum_block.Goals as goal

pub returns : goal.returns
returns c = sum-all (λ i. omega (arith, c.type_inv.lengths i)) c.if-bits-le65535.false c.sum_any.ensures

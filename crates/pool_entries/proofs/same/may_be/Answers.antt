use Rattle.std.proofs.Common.{arith}
use borrow.Author.Tests.{eqb-false}
use Rattle.pool_entries.proofs.Bytes.{part_differs}
use Rattle.pool_entries.proofs.same.may_be.Goals as goal

pub returns-then-size-gt7 : goal.returns-then-size-gt7
returns-then-size-gt7 c = λ z t e w h. part_differs c.args.text.now t c.args.at c.args.size _ c.eight.result c.args.word (omega arith) e (omega arith) c.eight.ensures w (λ q. omega (arith, eqb-false, z, q))

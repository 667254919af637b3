use Rattle.std.proofs.Common.{sym}
use Rattle.pool_entries.proofs.Bytes.{same_length}
use Rattle.pool_entries.proofs.same.same.Goals as goal

pub returns-then-a-b : goal.returns-then-a-b
returns-then-a-b c = sym (same_length c.args.a.now c.args.b.now c.if-a-b.true)

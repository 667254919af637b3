use Rattle.pool_stream.specs.inner.Write.{entries_bytes}
use Rattle.pool_stream.proofs.Writing.{Through}
use Rattle.pool_stream.proofs.write.write_entries.Given as goal

abbrev pub invariant-loop-size : goal.invariant-loop-size
invariant-loop-size l = Through (entries_bytes l.lengths l.counts) (entries_bytes l.size-iterator.a.rest.now l.size-iterator.b.rest.now) l.initial.out l.out l.at

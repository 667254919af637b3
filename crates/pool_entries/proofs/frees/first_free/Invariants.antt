use Rattle.std.proofs.Common.{◌≡◌, length}
use Rattle.std.specs.Slice.Iter.{chunks_rest, chunks_size}
use Rattle.pool_entries.specs.inner.Look.{Counted}
use Rattle.pool_entries.proofs.FirstFree.{Left}
use Rattle.pool_entries.proofs.frees.first_free.Given as goal

abbrev pub invariant-loop-block : goal.invariant-loop-block
invariant-loop-block l = (chunks_size l.block-iterator ≡ 1024) × Left l.counts (length l.counts) l.passed (chunks_rest l.block-iterator) × Counted l.counts 0 l.passed

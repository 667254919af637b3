use Rattle.std.proofs.Common.{◌≡◌}
use Rattle.std.specs.Slice.Iter.{chunks_rest, chunks_size}
use Rattle.pool_entries.proofs.Sums.{SummedTo}
use Rattle.pool_entries.proofs.adding.add_up.Given as goal

abbrev pub invariant-loop-block : goal.invariant-loop-block
invariant-loop-block l = (chunks_size l.block-iterator ≡ 4096) × SummedTo l.lengths (chunks_rest l.block-iterator) l.sum l.bits

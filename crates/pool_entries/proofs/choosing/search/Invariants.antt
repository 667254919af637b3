use Rattle.std.proofs.Common.{◌≡◌}
use Rattle.std.specs.Slice.Iter.{chunks_rest, chunks_size}
use Rattle.pool_entries.specs.Rooms.{rooms_of}
use Rattle.pool_entries.specs.inner.Fit.{Fit}
use Rattle.pool_entries.specs.inner.Look.{SumTo, Counted, NoneUp}
use Rattle.pool_entries.proofs.FirstFree.{Left}
use Rattle.pool_entries.proofs.choosing.search.Given as goal

abbrev pub invariant-loop-block : goal.invariant-loop-block
invariant-loop-block l =
    (chunks_size l.block-iterator ≡ 1024) × Left l.entries.rooms.counts.now l.entries.n l.i (chunks_rest l.block-iterator)
    × SumTo l.entries.rooms.lengths.now l.i l.start × Counted l.entries.rooms.counts.now 0 l.i
    × (Fit l.entries.n (rooms_of l.entries.rooms) → NoneUp (rooms_of l.entries.rooms) l.new 0 l.i)

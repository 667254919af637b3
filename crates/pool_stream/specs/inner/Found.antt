-- The entry at the front of a pool stream, as the code has it.
use Rattle.pool_stream.specs.Entries.{Found, one, cut, ends}
use Rattle.pool_stream.specs.declared.entry.PoolEntry.{PoolEntry}
use Rattle.pool_stream.specs.declared.entry.PoolEntry.TheVariants.{One, Cut, End}

abbrev pub found_as : PoolEntry → Found
found_as (One l c wide size) = one l c wide size
found_as Cut = cut
found_as (End stray) = ends stray

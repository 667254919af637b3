-- The pool stream and the data stream of a pool, and what writing one answers and leaves.
use Rattle.std.specs.Prelude.{ℕ, List}
use Rattle.common.specs.Answers.{Answer, outcome, written_to}
pub use Rattle.pool_stream.specs.Entries.{short_of, wide, entry_bytes, mark_of, stream_bytes}
use Rattle.stringpool.specs.Pool.{Rooms, entries_of, texts, on_sound}
use Rattle.stringpool.specs.declared.pool.StringPool.{StringPool}

-- the mark, "then entries"
abbrev pub pool_bytes : StringPool → Rooms → List ℕ
pool_bytes p w = stream_bytes p.num_strings p.long_string_refs p.codepage w

-- "The data stream holds the texts in entry order"
abbrev pub data_bytes : StringPool → Rooms → List ℕ
data_bytes p w = texts (entries_of p w)

-- 22, 24, then "7: output too small for the whole result"
abbrev pub write_outcome : StringPool → Rooms → List ℕ → List ℕ → Answer ℕ × List ℕ
write_outcome p w bytes out = outcome out (on_sound p w (written_to out bytes))

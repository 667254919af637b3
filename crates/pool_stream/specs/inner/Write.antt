-- A pool stream by lengths and counts alone.
use Rattle.std.specs.Prelude.{ℕ, List, [], ◌∷◌, ◌++◌, take}
use Rattle.little_endian.specs.Numbers.{bytes_of}
use Rattle.pool_stream.specs.Entries.{entry_bytes}

-- entries, one after another
abbrev pub entries_bytes : List ℕ → List ℕ → List ℕ
entries_bytes [] cs = []
entries_bytes (l ∷ ls) [] = []
entries_bytes (l ∷ ls) (c ∷ cs) = entry_bytes l c ++ entries_bytes ls cs

-- a mark, and the first n entries
abbrev pub stream_by : ℕ → ℕ → List ℕ → List ℕ → List ℕ
stream_by mark n ls cs = bytes_of 4 mark ++ entries_bytes (take n ls) (take n cs)

-- No entry, and the lengths and the counts of a list of entries.
use Rattle.std.specs.Prelude.{ℕ, List, [], map, length}
pub use Rattle.pool_entries.specs.Entries.{Entry, entry, Rooms, rooms, cut, first_entries}
pub use Rattle.pool_entries.specs.inner.Fit.{Fit}
pub use Rattle.stringpool.specs.Pool.{texts}

-- no entry: free, with no text
abbrev pub none : Entry
none = entry [] 0

abbrev pub lengths_of : List Entry → List ℕ
lengths_of es = map (λ (e : Entry). length e.text) es

abbrev pub counts_of : List Entry → List ℕ
counts_of es = map (λ (e : Entry). e.count) es

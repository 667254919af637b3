-- Loading a pool stream and a data stream: what it answers, and what it leaves.
use Rattle.std.specs.Prelude.{ℕ, ◌%◌, List, length, take}
use Rattle.common.specs.Choice.{◌≤?◌}
use Rattle.common.specs.Lists.{◌over◌, total}
use Rattle.common.specs.Answers.{Answer, gives, outcome, on_given}
use Rattle.little_endian.specs.Numbers.{number_at}
pub use Rattle.pool_stream.specs.Plan.{load_plan}
pub use Rattle.pool_stream.specs.Entries.{Found, one, cut, ends, entry_in, with_entry, on_found, entries_in, pool_entries_lem}
use Rattle.stringpool.specs.Pool.{Rooms, rooms, entry_room_lem}
use Rattle.stringpool.specs.declared.pool.StringPool.{StringPool}

-- "Four bytes: bit 31 says long references (3 bytes), the rest is the code page."
abbrev pub pool_from_lem : List ℕ → ℕ → StringPool
pool_from_lem s n =
    let mark = number_at 4 s 0 in
    record { num_strings = n; long_string_refs = 2147483648 ≤? mark; codepage = mark % 2147483648 }

-- "The data stream holds the texts in entry order; bytes after them are ignored."
abbrev pub load_entries : List ℕ → List ℕ → Rooms → List ℕ × List ℕ → StringPool × Rooms
load_entries s d w x = (pool_from_lem s (length x.0), rooms (x.0 over w.lengths) (x.1 over w.counts) (take (total x.0) d over w.text))

-- "Order: 22 first .. Load: 1, 2, 3, 4, 5, 6.": by `load_plan`
abbrev pub load_answer : List ℕ → List ℕ → Rooms → Answer (StringPool × Rooms)
load_answer s d w = on_given (load_plan s (entry_room_lem w) (length d) (length w.text)) (λ x. gives (load_entries s d w x))

abbrev pub load_outcome : List ℕ → List ℕ → Rooms → Answer StringPool × Rooms
load_outcome s d w = outcome w (load_answer s d w)

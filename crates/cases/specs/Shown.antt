-- What a case of document 01's proved table asks, what its call answers and leaves, and what of that the table shows; all by the
-- definitions of the public calls.
use Rattle.std.specs.Prelude.{ℕ, Bool, false, List, map, ℤ, take, replicate}
use Rattle.common.specs.Answers.{Answer, gives, refused, Place}
use Rattle.common.specs.Lists.{from}
use Rattle.streamname.specs.Calls.{encode_outcome}
use Rattle.stringpool.specs.declared.pool.StringPool.{StringPool}
use Rattle.stringpool.specs.Pool.{Rooms, rooms}
use Rattle.stringpool.specs.Refs.{reference_to}
use Rattle.stringpool.specs.Load.{load_outcome}
use Rattle.stringpool.specs.Show.{show_answer, refcount_answer}
use Rattle.stringpool.specs.Take.{first_free_or_equal, take_outcome}
use Rattle.cell.specs.declared.form.ColumnType.{ColumnType}
use Rattle.column.specs.declared.column.Column.{Column}
use Rattle.column.specs.Columns.{building, bits_column}
use Rattle.table.specs.Layout.{bitfields_outcome, layout_or_none}
use Rattle.table.specs.Writing.{Cells, write_rows_outcome}

pub data Asked : Type 0 where
  -- the stored form of a name, a table's or a plain one
  name : List ℕ → Bool → Asked
  -- rows of cells, written to a table of columns with these bits and short references
  written : List ℤ → ℕ → Cells → Asked
  -- the column with these bits
  bits : ℤ → Asked
  -- a pool stream and a data stream, loaded
  loaded : List ℕ → List ℕ → Asked
  -- a take of a text on what these streams load, by the first free or equal
  taken : List ℕ → List ℕ → List ℕ → Asked

-- of each reference in use, from 1 on, the text and the count
abbrev pub Entries : Type 0
Entries = List (Answer (List ℕ) × Answer ℕ)

pub data Shown : Type 0 where
  units : List ℕ → Shown
  bytes : List ℕ → Shown
  type : ColumnType → Shown
  pool : ℕ → Entries → Shown
  answers : ℤ → Entries → Shown
  refuses : ℕ → Place → Shown

-- ---- the call

-- what it answers, with every room that it was lent
abbrev pub Outcome : Asked → Type 0
Outcome (name letters table) = Answer ℕ × List ℕ
Outcome (written fields rows cells) = Answer ℕ × List ℕ
Outcome (bits n) = Answer Column
Outcome (loaded stream texts) = Answer StringPool × Rooms
Outcome (taken stream texts text) = Answer (ℤ × StringPool) × Rooms

-- rooms for four entries and six bytes, and outputs of eight, that no call has touched yet
abbrev pub room : Rooms
room = rooms (replicate 4 0) (replicate 4 0) (replicate 6 0)

abbrev pub output : List ℕ
output = replicate 8 0

-- "On k": a take by the first free or equal on what a load answered and left; where that was refused, its refusal
abbrev pub take_on : List ℕ → Answer StringPool × Rooms → Answer (ℤ × StringPool) × Rooms
take_on text (gives p, w) = take_outcome first_free_or_equal p w text
take_on text (refused n at, w) = (refused n at, w)

abbrev pub called : (asked : Asked) → Outcome asked
called (name letters table) = encode_outcome letters table output
called (written fields rows cells) = write_rows_outcome (layout_or_none false (bitfields_outcome fields false)) rows cells output
called (bits n) = bits_column building 0 n
called (loaded stream texts) = load_outcome stream texts room
called (taken stream texts text) = take_on text (load_outcome stream texts room)

-- ---- what is shown of it

-- what was written to the output
abbrev pub units_in : Answer ℕ × List ℕ → Shown
units_in (gives n, out) = units (take n out)
units_in (refused n at, out) = refuses n at

abbrev pub bytes_in : Answer ℕ × List ℕ → Shown
bytes_in (gives n, out) = bytes (take n out)
bytes_in (refused n at, out) = refuses n at

abbrev pub type_shown : Answer Column → Shown
type_shown (gives x) = type x.coltype
type_shown (refused n at) = refuses n at

abbrev pub entries_shown : StringPool → Rooms → Entries
entries_shown p w = map (λ (k : ℕ). (show_answer p w (reference_to k), refcount_answer p w (reference_to k))) (from 0 p.num_strings)

abbrev pub pool_shown : Answer StringPool × Rooms → Shown
pool_shown (gives p, w) = pool p.codepage (entries_shown p w)
pool_shown (refused n at, w) = refuses n at

abbrev pub taken_shown : Answer (ℤ × StringPool) × Rooms → Shown
taken_shown (gives x, w) = answers x.0 (entries_shown x.1 w)
taken_shown (refused n at, w) = refuses n at

abbrev pub shown_of_lem : (asked : Asked) → Outcome asked → Shown
shown_of_lem (name letters table) x = units_in x
shown_of_lem (written fields rows cells) x = bytes_in x
shown_of_lem (bits n) x = type_shown x
shown_of_lem (loaded stream texts) x = pool_shown x
shown_of_lem (taken stream texts text) x = taken_shown x

abbrev pub answer_shown : Asked → Shown
answer_shown asked = shown_of_lem asked (called asked)

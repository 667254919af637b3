-- A pool's entries, cut out of the lent rooms.
use Rattle.std.specs.Prelude.{ℕ, min, Bool, true, ◌&&◌, List, [], ◌∷◌, length, take, drop}
use Rattle.common.specs.Choice.{◌=?◌}

-- an entry: its text, and how many references count on it
pub record Entry : Type 0 where
  pub text : List ℕ
  pub count : ℕ

abbrev pub entry : List ℕ → ℕ → Entry
entry t c = record { text = t; count = c }

-- the lent rooms
pub record Rooms : Type 0 where
  pub lengths : List ℕ
  pub counts : List ℕ
  pub text : List ℕ

abbrev pub rooms : List ℕ → List ℕ → List ℕ → Rooms
rooms ls cs ts = record { lengths = ls; counts = cs; text = ts }

-- "The text room starts with exactly the data stream's texts in entry order": it is cut by the lengths
abbrev pub cut : List ℕ → List ℕ → List ℕ → List Entry
cut [] cs ts = []
cut (l ∷ ls) [] ts = []
cut (l ∷ ls) (c ∷ cs) ts = entry (take l ts) c ∷ cut ls cs (drop l ts)

-- the entries of the rooms, by the entry count
abbrev pub first_entries : ℕ → Rooms → List Entry
first_entries n w = cut (take n w.lengths) (take n w.counts) w.text

-- "The entry room is the shorter of the lent lengths and counts"
abbrev pub entry_room_lem : Rooms → ℕ
entry_room_lem w = min (length w.lengths) (length w.counts)

-- "free (count 0)"
abbrev pub free : Entry → Bool
free e = e.count =? 0

abbrev pub all : (Entry → Bool) → List Entry → Bool
all f [] = true
all f (e ∷ es) = f e && all f es

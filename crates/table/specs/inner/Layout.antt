-- What the readers and writers of a table are handed.
use Rattle.std.specs.Prelude.{ℕ, ◌*◌, ◌≤◌, ◌≡◌, length}
use Rattle.widths.specs.declared.places.Places.{Places}
use Rattle.widths.specs.Widths.{row_size_lem}
use Rattle.widths.specs.Places.{places_for}
use Rattle.table.specs.declared.layout.Table.{Table}
use Rattle.table.specs.Layout.{types_of}

-- the places of a table's rows within so many bytes
pub record Lies (t : Table) (p : Places) (bytes : ℕ) : Type 0 where
  pub whole : length t.columns ≡ 64
  pub narrow : t.count ≤ 64
  pub small : bytes ≤ 268435455
  pub is : p ≡ places_for (types_of t) t.long_string_refs p.rows
  pub few : p.rows ≤ 65536
  pub within : p.rows * row_size_lem (types_of t) t.long_string_refs ≤ bytes

-- Points: a walk over two rows, and steps that keep their place, each computed from the definition.
use Rattle.std.specs.Prelude.{◌≡◌, false, List, [], ◌∷◌, ℕ, pos, negsuc}
use Rattle.common.specs.Answers.{gives, refused, nowhere, column}
use Rattle.cell.specs.declared.form.ColumnType.TheVariants.{Str}
use Rattle.column.specs.Columns.{building, finished}
use Rattle.table.specs.declared.layout.Table.{Table}
use Rattle.table.specs.Layout.{bitfields_outcome, layout_or_none}
use Rattle.rows.specs.Next.{another, none, next_outcome, beginning, walk}

-- 01's table m: an Int16 and a Str 8 column, short references, and its bytes
abbrev pub m : Table
m = layout_or_none false (bitfields_outcome (pos 0x502 ∷ pos 0xD08 ∷ []) false)

abbrev pub m_bytes : List ℕ
m_bytes = 0x01 ∷ 0x80 ∷ 0xFF ∷ 0x7F ∷ 0x03 ∷ 0x00 ∷ 0x00 ∷ 0x00 ∷ []

-- "answers one cell after another, row by row", and "after the last it answers that there is none, however often asked"
abbrev pub WalkOverM : Type 0
WalkOverM = walk m m_bytes beginning 6
    ≡ (
      gives (another (1, pos 1)) ∷ gives (another (2, pos 3)) ∷ gives (another (1, negsuc 0)) ∷ gives (another (0, pos 0)) ∷ gives none ∷ gives none ∷ [],
      4,
    )

-- a layout of 65 columns, and one whose second column is a Str 256
abbrev pub too_many_lem : Table
too_many_lem = record { columns = m.columns; count = 65; long_string_refs = false }

abbrev pub too_long_lem : Table
too_long_lem = record { columns = finished building (Str 8) ∷ finished building (Str 256) ∷ []; count = 2; long_string_refs = false }

-- a step that is refused keeps its place, with 20 and with 19; so does one past the last cell
abbrev pub PlaceKept : Type 0
PlaceKept = ((at : ℕ) → next_outcome too_many_lem m_bytes at ≡ (refused 20 nowhere, at))
    × ((at : ℕ) → next_outcome too_long_lem m_bytes at ≡ (refused 19 (column 1), at))
    × (next_outcome m m_bytes 4 ≡ (gives none, 4))
    × (next_outcome m m_bytes 1000 ≡ (gives none, 1000))

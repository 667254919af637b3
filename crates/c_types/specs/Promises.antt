-- What judging the columns of a layout that C handed over comes to where the first bad one is of an unknown type. Every call on a table judges
-- its columns so, before 14.
use Rattle.std.specs.Prelude.{ℕ, ◌≤◌, ◌<◌, true, ◌≡◌, length, take}
use Rattle.common.specs.Sizes.{max_columns}
use Rattle.common.specs.Answers.{gives, refused, column}
use Rattle.widths.specs.Judged.{each_at, sound_column, sound_columns}
use Rattle.table.specs.Layout.{columns_of}
use Rattle.c_types.specs.Tables.{table_in_lem, type_handed, on_table}
use Rattle.cell.specs.Handed.{unknown}
use Rattle.c_types.specs.declared.answers.TableParts.{TableParts}

-- the first bad column is the one at c, which is in use, and its type is unknown: 16 at c
abbrev pub UnknownType : Type 0
UnknownType = (t : TableParts) (c : ℕ) → length t.columns ≡ max_columns → t.count ≤ max_columns → c < t.count
    → each_at sound_column 0 (take c (columns_of (table_in_lem t))) ≡ gives (take c (columns_of (table_in_lem t))) → unknown (type_handed t c) ≡ true
    → on_table t (sound_columns (table_in_lem t).columns (table_in_lem t).count) ≡ refused 16 (column c)

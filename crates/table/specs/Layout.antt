-- Document 01: "A layout of at most 64 columns is handed over whole".
use Rattle.std.specs.Prelude.{ℕ, Bool, List, ℤ, length, replicate}
use Rattle.common.specs.Lists.{◌over◌}
use Rattle.common.specs.Answers.{Answer, gives, refused, on_given}
use Rattle.cell.specs.declared.form.ColumnType.{ColumnType}
use Rattle.cell.specs.declared.form.ColumnType.TheVariants.{Int16}
use Rattle.column.specs.declared.column.Column.{Column}
use Rattle.column.specs.Columns.{building, finished, bits_column}
use Rattle.widths.specs.Judged.{used_columns, used_types, judged, on_sound_columns}
use Rattle.table.specs.declared.layout.Table.{Table}

-- the columns in use, and their types
abbrev pub columns_of : Table → List Column
columns_of t = used_columns t.columns t.count

abbrev pub types_of : Table → List ColumnType
types_of t = used_types t.columns t.count

-- what a call on a table answers where its columns are sound
abbrev pub on_columns : {A : Type 0} → Table → Answer A → Answer A
on_columns t a = on_sound_columns t.columns t.count a

-- a place that is not in use holds an Int16 column without marks
abbrev pub unused : List Column
unused = replicate 64 (finished building Int16)

-- a layout from bitfields: 20, 13
abbrev pub bitfields_outcome : List ℤ → Bool → Answer Table
bitfields_outcome bits long =
    on_given (judged (bits_column building) (length bits) bits)
    (λ xs. gives (record { columns = xs over unused; count = length bits; long_string_refs = long }))

-- a layout of columns: 20, 19; the places that are not in use stay as they are
abbrev pub columns_outcome : List Column → ℕ → Bool → Answer Table
columns_outcome xs count long =
    let t : Table = record { columns = xs; count = count; long_string_refs = long } in
    on_columns t (gives t)

-- the layout that stands beside an answer: one of no columns where it was refused
abbrev pub no_table_lem : Bool → Table
no_table_lem long = record { columns = unused; count = 0; long_string_refs = long }

abbrev pub layout_or_none : Bool → Answer Table → Table
layout_or_none long (gives t) = t
layout_or_none long (refused n at) = no_table_lem long

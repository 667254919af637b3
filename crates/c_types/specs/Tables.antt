-- A layout as C has it, and the answers of the calls on tables.
use Rattle.std.specs.Prelude.{ℕ, Bool, true, false, map, ℤ, pos, get_or, Result}
use Rattle.common.specs.Answers.{Answer, gives, refused}
use Rattle.table.specs.declared.layout.Table.{Table}
use Rattle.table.specs.Layout.{no_table_lem, layout_or_none}
use Rattle.rows.specs.Next.{Next, another, none}
use Rattle.c_types.specs.Answers.{told_lem, refusal_told, given_told, refusal_in}
use Rattle.c_types.specs.Columns.{column_from, parts_of}
use Rattle.c_types.specs.Unknown.{on_types}
use Rattle.c_types.specs.declared.answers.Refused.{Refused}
use Rattle.c_types.specs.declared.answers.CellAnswer.{CellAnswer}
use Rattle.c_types.specs.declared.answers.ColumnParts.{ColumnParts}
use Rattle.c_types.specs.declared.answers.TableParts.{TableParts}
use Rattle.c_types.specs.declared.answers.TableAnswer.{TableAnswer}
use Rattle.c_types.specs.declared.answers.StepAnswer.{StepAnswer}

-- "A layout of at most 64 columns is handed over whole"
abbrev pub table_in_lem : TableParts → Table
table_in_lem t = record { columns = map column_from t.columns; count = t.count; long_string_refs = t.long_string_refs }

abbrev pub table_out_lem : Table → TableParts
table_out_lem t = record { columns = map parts_of t.columns; count = t.count; long_string_refs = t.long_string_refs }

-- the type that column c was handed over with
abbrev pub type_handed : TableParts → ℕ → ℕ
type_handed t c = get_or (map (λ (p : ColumnParts). p.coltype) t.columns) c 0

-- what a call on this table answers: "13 or 19 at the first bad column", or 16 where its type is unknown
abbrev pub on_table : {A : Type 0} → TableParts → Answer A → Answer A
on_table t a = on_types (type_handed t) a

-- a layout, or one of no columns beside the refusal, with the width of references that was asked for
abbrev pub laid_told : Bool → Result TableParts Refused → TableAnswer
laid_told long a = record { refused = refusal_told a; table = given_told (table_out_lem (no_table_lem long)) a }

abbrev pub laid_in : Bool → Answer Table → TableAnswer
laid_in long a = record { refused = refusal_in a; table = table_out_lem (layout_or_none long a) }

-- a layout of columns is handed back as it came, the places that are not in use too, whatever their types; a refused one has no columns
abbrev pub layout_or : TableParts → Answer Table → TableParts
layout_or t (gives x) = t
layout_or t (refused n at) = table_out_lem (no_table_lem t.long_string_refs)

abbrev pub new_in : TableParts → Answer Table → TableAnswer
new_in t a = record { refused = refusal_in (on_table t a); table = layout_or t a }

abbrev pub cell_told : Result (ℕ × ℤ) Refused → CellAnswer
cell_told a = record { refused = refusal_told a; kind = (given_told (0, pos 0) a).0; number = (given_told (0, pos 0) a).1 }

abbrev pub cell_in : Answer (ℕ × ℤ) → CellAnswer
cell_in a = cell_told (told_lem a)

-- a step of the row reader: whether there was a cell, the cell, and the place after it
abbrev pub is_cell : Next → Bool
is_cell (another x) = true
is_cell none = false

abbrev pub next_cell : Next → ℕ × ℤ
next_cell (another x) = x
next_cell none = (0, pos 0)

abbrev pub step_told : Result Next Refused → ℕ → StepAnswer
step_told a at =
    let next = given_told none a in
    record { refused = refusal_told a; at = at; found = is_cell next; kind = (next_cell next).0; number = (next_cell next).1 }

abbrev pub step_in : Answer Next × ℕ → StepAnswer
step_in x = step_told (told_lem x.0) x.1

-- Values as C has them, by kind and number, and the answer that holds one with a pool.
use Rattle.std.specs.Prelude.{ℕ, List, Bool, ℤ, pos, Result}
use Rattle.common.specs.Choice.{when◌then◌else◌, ◌=?◌}
use Rattle.common.specs.Answers.{Answer, nowhere, column}
use Rattle.stringpool.specs.declared.pool.StringPool.{StringPool}
use Rattle.stringpool.specs.Pool.{Rooms}
use Rattle.stringpool.specs.Take.{Chooser}
use Rattle.cell.specs.declared.value.ValueRef.{ValueRef}
use Rattle.cell.specs.declared.value.ValueRef.TheVariants as values
use Rattle.cell.specs.Kinds.{ref_kind, ref_number, value_kind, value_number}
use Rattle.cell.specs.declared.value.Value.{Value}
use Rattle.cell.specs.declared.value.Value.TheVariants as plain
use Rattle.pool_values.specs.Pooled.{create_answer, remove_answer, text_answer, shown_answer}
use Rattle.column.specs.Check.{check_answer}
use Rattle.c_types.specs.Answers.{told_lem, refusal_told, given_told}
use Rattle.c_types.specs.Columns.{column_from, on_column}
use Rattle.c_types.specs.Pools.{no_pool_lem}
use Rattle.c_types.specs.Unknown.{on_kind}
use Rattle.c_types.specs.declared.answers.Refused.{Refused}
use Rattle.c_types.specs.declared.answers.ColumnParts.{ColumnParts}
use Rattle.c_types.specs.declared.answers.CreateAnswer.{CreateAnswer}

-- "0 Null, 1 Int, 2 Str, 3 Binary"; an unknown kind is judged as Binary is, and `on_kind` then refuses it
abbrev pub value_in_lem : ℕ → ℤ → ValueRef
value_in_lem kind n =
    when kind =? 0 then values.Null
    else when kind =? 1 then values.Int n
    else when kind =? 2 then values.Str (record { 0 = n })
    else values.Binary

-- the same of a value whose text stands beside it
abbrev pub plain_in_lem : ℕ → ℤ → Value
plain_in_lem kind n =
    when kind =? 0 then plain.Null
    else when kind =? 1 then plain.Int n
    else when kind =? 2 then plain.Str
    else plain.Binary

-- a value by its kind and number, as it is handed over, with a pool: 22, 24, then 16 with no place, since the value stands in no cell
abbrev pub create_by : Chooser → ℕ → ℤ → List ℕ → StringPool → Rooms → Answer (((ℕ × ℤ) × StringPool) × Rooms)
create_by choose kind n new p w = on_kind nowhere kind (create_answer choose (value_kind (plain_in_lem kind n)) (value_number (plain_in_lem kind n)) new p w)

abbrev pub remove_by : ℕ → ℤ → StringPool → Rooms → Answer (StringPool × Rooms)
remove_by kind n p w = on_kind nowhere kind (remove_answer (ref_kind (value_in_lem kind n)) (ref_number (value_in_lem kind n)) p w)

abbrev pub shown_by : ℕ → ℤ → StringPool → Rooms → Answer (ℕ × ℤ)
shown_by kind n p w = on_kind nowhere kind (shown_answer (ref_kind (value_in_lem kind n)) (ref_number (value_in_lem kind n)) p w)

abbrev pub text_by : ℕ → ℤ → StringPool → Rooms → Answer (List ℕ)
text_by kind n p w = on_kind nowhere kind (text_answer (ref_kind (value_in_lem kind n)) (ref_number (value_in_lem kind n)) p w)

-- and with a column, which is column 0: 22, then the column's 19 or 16, then 16 for the value
abbrev pub check_by : ColumnParts → ℕ → ℤ → List ℕ → Answer Bool
check_by p kind n text =
    on_kind (column 0) kind (on_column p (check_answer (column_from p) (plain_in_lem kind n) text))

abbrev pub no_value : (ℕ × ℤ) × StringPool
no_value = ((0, pos 0), no_pool_lem)

abbrev pub created_told : Result ((ℕ × ℤ) × StringPool) Refused → CreateAnswer
created_told a = record { refused = refusal_told a; pool = (given_told no_value a).1; kind = (given_told no_value a).0.0; number = (given_told no_value a).0.1 }

abbrev pub created_in : Answer ((ℕ × ℤ) × StringPool) → CreateAnswer
created_in a = created_told (told_lem a)

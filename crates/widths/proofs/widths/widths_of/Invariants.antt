use Rattle.widths.specs.Judged.{each_at, used_columns, used_types, sound_column}
use Rattle.widths.specs.Widths.{widths_in, row_size_lem, zeros}
use Rattle.cell.specs.declared.form.ColumnType.{ColumnType}
use Rattle.column.specs.declared.column.Column.{Column}
use Rattle.common.specs.Answers.{refusal_of}
use Rattle.common.specs.Lists.{over_at, ◌over◌}
use lib.ListN.{length, drop}
use Prim.Native.Nat.{ℕ, ◌+◌, ◌*◌, ◌≤◌}
use mathlib.Core.List.{List, map}
use mathlib.Core.Path.{◌≡◌}
use Rattle.widths.proofs.widths.widths_of.Given as goal

-- the types of the columns from c on
abbrev pub types_from : ℕ → List Column → ℕ → List ColumnType
types_from c columns count = map (λ (x : Column). x.coltype) (drop c (used_columns columns count))

abbrev pub invariant-loop-c : goal.invariant-loop-c
invariant-loop-c l =
    (l.row_size ≤ 4 * l.c) × (length l.widths ≡ 64)
    × (over_at l.c (widths_in (types_from l.c l.fn.columns l.count) l.long_string_refs) l.widths ≡ widths_in (used_types l.fn.columns l.count) l.long_string_refs over zeros)
    × (l.row_size + row_size_lem (types_from l.c l.fn.columns l.count) l.long_string_refs ≡ row_size_lem (used_types l.fn.columns l.count) l.long_string_refs)
    × (refusal_of (each_at sound_column l.c (drop l.c (used_columns l.fn.columns l.count))) ≡ refusal_of (each_at sound_column 0 (used_columns l.fn.columns l.count)))

-- What the judge and the reader of a column answer where they are handed what they ask for.
use mathlib.Core.Path.{◌≡◌}
use mathlib.Core.List.{List}
use Prim.Native.Nat.{ℕ, ◌≤◌}
use lib.IntN.{ℤ}
use lib.ListN.{length}
use borrow.Author.Tests.{le-ltb, lt-leb, eq-eqb}
use Rattle.common.specs.Lists.{from}
use Rattle.common.specs.Answers.{gives, each, refusal_of}
use Rattle.cell.specs.declared.form.CellForm.{CellForm}
use Rattle.column_cells.specs.declared.stride.Stride.{Stride}
use Rattle.column_cells.specs.Strides.{cell_number, kinds_read, numbers_read}
use Rattle.column_cells.specs.Columns.{judge_column_answer, read_column_outcome}
use Rattle.column_cells.specs.inner.Handed.{Handed, Held}

pub judge_handed : (f : CellForm) (kinds : List ℕ) (numbers : List ℤ) (run : Stride) → Handed (length kinds) (length numbers) run
    → judge_column_answer f kinds numbers run ≡ refusal_of (each (cell_number f kinds numbers run) (from 0 run.rows))
judge_handed f kinds numbers run h =
    rw (le-ltb 64 run.step h.narrow, le-ltb 65536 run.rows h.few, lt-leb run.step run.column h.below, eq-eqb _ _ h.kinds-are, eq-eqb _ _ h.numbers-are)

pub read_held : (f : CellForm) (s : List ℕ) (start : ℕ) (run : Stride) (kinds : List ℕ) (numbers : List ℤ) → length s ≤ 268435455 → Held f (length s) start (length kinds) (length numbers) run
    → read_column_outcome f s start run kinds numbers ≡ (gives tt, (kinds_read f s start run kinds, numbers_read f s start run numbers))
read_held f s start run kinds numbers small h =
    rw (le-ltb 268435455 (length s) small, le-ltb 64 run.step h.narrow, le-ltb 65536 run.rows h.few, lt-leb run.step run.column h.below, le-ltb _ _ h.stream, le-ltb _ _ h.kinds-are, le-ltb _ _ h.numbers-are)

-- One column's cells, written: what the writer is handed, and what comes of it.
use Rattle.std.specs.Prelude.{ℕ, ◌*◌, ◌≤◌, ◌≡◌, List, ℤ, length}
use Rattle.common.specs.Lists.{from}
use Rattle.common.specs.Answers.{Place, Answer, gives, on_given, each, refusal_of}
use Rattle.little_endian.specs.Numbers.{bytes_of}
use Rattle.cell.specs.declared.value.Cell.{Cell}
use Rattle.cell.specs.Handed.{handed_kind, handed_number}
use Rattle.cell.specs.declared.form.CellForm.{CellForm}
use Rattle.cell.specs.Cells.{stored}
use Rattle.cell.specs.Forms.{type_in, long_in}
use Rattle.column_cells.specs.declared.stride.Stride.{Stride}
use Rattle.column_cells.specs.Strides.{form_width, cell_number}
use Rattle.column_cells.specs.inner.Handed.{Handed}

-- its bytes
abbrev pub form_bytes : CellForm → List ℕ → List ℤ → Stride → ℕ → Answer (List ℕ)
form_bytes f kinds numbers run r = on_given (cell_number f kinds numbers run r) (λ n. gives (bytes_of (form_width f) n))

-- cells that were judged and can all be stored, and room for their bytes
pub record Storable (f : CellForm) (kinds : List ℕ) (numbers : List ℤ) (run : Stride) (out : ℕ) : Type 0 where
  pub handed : Handed (length kinds) (length numbers) run
  pub room : run.rows * form_width f ≤ out
  pub fine : refusal_of (each (cell_number f kinds numbers run) (from 0 run.rows)) ≡ gives tt

-- what one cell stores, or why it cannot be stored
abbrev pub form_stored : CellForm → Cell → Place → Answer ℕ
form_stored f v at = stored (type_in f) (long_in f) at (handed_kind v) (handed_number v)

-- it was judged at some place and can be stored
abbrev pub Judged : (Place → Answer ℕ) → Type 0
Judged answer = (at : Place) × (refusal_of (answer at) ≡ gives tt)

-- as this number, at every place
abbrev pub Numbered : (Place → Answer ℕ) → ℕ → Type 0
Numbered answer n = (at : Place) → answer at ≡ gives n

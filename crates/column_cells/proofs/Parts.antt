-- A cell read from its own bytes.
use mathlib.Core.Path.{◌≡◌, refl, ◌∙◌, ap}
use mathlib.Core.List.{List}
use Prim.Native.Nat.{ℕ, zero, suc, ◌+◌, ◌≤◌}
use native.Mathlib.Nat.{add-zero}
use native.Mathlib.Omega.{arith}
use lib.ListN.{take, drop}
use lib.Seq.{get_or-take, get_or-drop}
use Rattle.little_endian.specs.Numbers.{number_at as number_in}
use Rattle.cell.specs.declared.form.CellForm.{CellForm}
use Rattle.column_cells.specs.Strides.{form_width}

pub part_number : (w k : ℕ) (s : List ℕ) (at i : ℕ) → i + w ≤ k → number_in w (take k (drop at s)) i ≡ number_in w s (at + i)
part_number zero k s at i h = refl
part_number (suc w) k s at i h =
    let e : at + suc i ≡ suc (at + i) = omega arith in
    rw (get_or-take k (drop at s) i 0 (omega arith), get_or-drop, part_number w k s at (suc i) (omega arith), e)

-- a cell read from its own bytes
pub cell-part : (f : CellForm) (s : List ℕ) (at k : ℕ) → form_width f ≤ k → number_in (form_width f) (take k (drop at s)) 0 ≡ number_in (form_width f) s at
cell-part f s at k h = part_number (form_width f) k s at 0 (omega arith) ∙ ap (number_in (form_width f) s) (add-zero at)

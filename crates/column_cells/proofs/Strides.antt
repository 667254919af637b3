-- A column's cells: one row more, and the end.
use mathlib.Core.Path.{◌≡◌}
use mathlib.Core.List.{List, map}
use Prim.Native.Nat.{ℕ, suc, ◌+◌, ◌-◌, ◌*◌, ◌<◌, ◌≤◌}
use native.Mathlib.Nat.{mul-le-mul_right, suc-mul}
use native.Mathlib.Numerals.{add-one}
use native.Mathlib.Omega.{arith}
use lib.ListN.{set}
use Rattle.common.specs.Lists.{from}
use Rattle.column_cells.specs.Strides.{strided}
use Rattle.common.proofs.Lists.{from_next}

-- the next multiple, within as many
pub next_le : (i n k : ℕ) → i < n → i * k + k ≤ n * k
next_le i n k h = omega (arith, mul-le-mul_right {m = suc i} {n = n} k h, suc-mul i k)

pub next-is : (i k : ℕ) → (i + 1) * k ≡ i * k + k
next-is i k = rw add-one (suc-mul i k)

-- ---- stores a step apart

module _ {A : Type 0} (g : ℕ → A) (i step row rows : ℕ) (l : List A) where
  pub stride_turn : row < rows → strided (i + step) step (map g (from (row + 1) (rows - (row + 1)))) (set l i (g row)) ≡ strided i step (map g (from row (rows - row))) l
  stride_turn h = rw (from_next row rows h)

-- A list cut into pieces one after the other, and put together again.
use mathlib.Core.Path.{◌≡◌, sym, ◌∙◌, ap}
use mathlib.Core.Bool.{Bool}
use mathlib.Core.List.{List, ◌++◌, map, append_assoc}
use Prim.Native.Nat.{ℕ, zero, suc, ◌+◌, ◌-◌, ◌*◌, ◌<◌, ◌≤◌}
use native.Mathlib.Nat.{zero-mul, suc-mul, add-zero, zero-add, not-suc-le-zero, le_of_suc-le-suc, mul-add, mul-le-mul_left}
use native.Mathlib.Numerals.{add-one}
use native.Mathlib.Omega.{arith}
use lib.ListN.{length, take, drop}
use lib.Seq.{take-add, drop-drop, take_at, drop-append-add}
use Rattle.common.specs.Lists.{joined, from}
use Rattle.common.specs.Answers.{Answer, gives, each, refusal_of}
use Rattle.cell.specs.declared.form.ColumnType.{ColumnType}
use Rattle.cell.specs.Cells.{width}
use Rattle.widths.specs.Widths.{row_size_lem, type_at}
use Rattle.table.specs.inner.Columns.{given_bytes, plain}
use Rattle.common.proofs.Answers.{fine-first}
use Rattle.table.proofs.Column.{size-next}

-- equal pieces
pub equal-pieces : (w start : ℕ) (s : List ℕ) (k n : ℕ) → joined (map (λ (r : ℕ). take w (drop (start + r * w) s)) (from k n)) ≡ take (n * w) (drop (start + k * w) s)
equal-pieces w start s k zero = rw (zero-mul)
equal-pieces w start s k (suc n) =
    let e : suc n * w ≡ w + n * w = omega (arith, suc-mul n w) in
    let d : start + suc k * w ≡ start + k * w + w = omega (arith, suc-mul k w) in
    rw (equal-pieces w start s (suc k) n, e, take-add w (n * w) (drop (start + k * w) s), drop-drop, d)

size-grows : (ts : List ColumnType) (long : Bool) (c n : ℕ) → c + n ≤ length ts → row_size_lem (take c ts) long ≤ row_size_lem (take (c + n) ts) long
size-grows ts long c zero h = rw add-zero (omega arith)
size-grows ts long c (suc n) h =
    let e : c + suc n ≡ c + n + 1 = omega arith in
    rw e (omega (arith, size-grows ts long c n (omega arith), size-next ts long (c + n) (omega arith)))

-- pieces of the columns' widths
module _ (ts : List ColumnType) (long : Bool) (rows : ℕ) (s : List ℕ) where
  abbrev piece : ℕ → List ℕ
  piece c = take (rows * width (type_at ts c) long) (drop (rows * row_size_lem (take c ts) long) s)

  pub column-pieces : (c n m : ℕ) → c + n ≡ length ts → rows * row_size_lem (take c ts) long + m ≡ rows * row_size_lem (take (c + n) ts) long → joined (map piece (from c n)) ≡ take m (drop (rows * row_size_lem (take c ts) long) s)
  column-pieces c zero m e h =
      let z : m ≡ 0 = omega (arith, rw add-zero at h) in
      rw z
  column-pieces c (suc n) m e h =
      let next : rows * row_size_lem (take (suc c) ts) long ≡ rows * row_size_lem (take c ts) long + rows * width (type_at ts c) long =
      ap (λ (k : ℕ). rows * k) (rw add-one at (size-next ts long c (omega arith))) ∙ mul-add rows _ _ in
      let i : suc c + n ≡ c + suc n = omega arith in
      let grows = mul-le-mul_left rows (size-grows ts long (suc c) n (omega arith)) in
      let last = ap (λ (k : ℕ). rows * row_size_lem (take k ts) long) i in
      let a : ℕ = rows * width (type_at ts c) long in
      let q : m ≡ a + (m - a) = omega arith in
      let here : List ℕ = drop (rows * row_size_lem (take c ts) long) s in
      let tail : drop a here ≡ drop (rows * row_size_lem (take (suc c) ts) long) s = drop-drop a (rows * row_size_lem (take c ts) long) s ∙ ap (λ (k : ℕ). drop k s) (sym next) in
      rw (column-pieces (suc c) n (m - a) (omega arith) (omega arith), ← tail) (sym (ap (λ (k : ℕ). take k here) q ∙ take-add a (m - a) here))

-- ---- a piece taken out again

-- of equal pieces
pub equal-at : (f : ℕ → Answer (List ℕ)) (w k n r : ℕ) → ((x : ℕ) → refusal_of (f x) ≡ gives tt → length (given_bytes (f x)) ≡ w) → refusal_of (each f (from k n)) ≡ gives tt → r < n
    → take w (drop (r * w) (plain f k n)) ≡ given_bytes (f (k + r))
equal-at f w k zero r h e p = absurd (not-suc-le-zero p)
equal-at f w k (suc n) zero h e p =
    let q = fine-first f k (from (suc k) n) e in
    rw (zero-mul, add-zero, take_at (given_bytes (f k)) (plain f (suc k) n) w (h k q.0))
equal-at f w k (suc n) (suc r) h e p =
    let q = fine-first f k (from (suc k) n) e in
    let l = h k q.0 in
    let i : suc r * w ≡ length (given_bytes (f k)) + r * w = omega (arith, suc-mul r w) in
    let j : k + suc r ≡ suc k + r = omega arith in
    rw (i, drop-append-add (given_bytes (f k)) (plain f (suc k) n) (r * w), j) (equal-at f w (suc k) n r h q.1 (le_of_suc-le-suc p))

-- what stands before the c-th, it, and the rest
pub plain-split : (f : ℕ → Answer (List ℕ)) (k c n : ℕ) → plain f k (c + suc n) ≡ plain f k c ++ (given_bytes (f (k + c)) ++ plain f (suc (k + c)) n)
plain-split f k zero n = rw (zero-add, add-zero)
plain-split f k (suc c) n =
    let i : suc c + suc n ≡ suc (c + suc n) = omega arith in
    let j : k + suc c ≡ suc k + c = omega arith in
    rw (i, j, plain-split f (suc k) c n, append_assoc)

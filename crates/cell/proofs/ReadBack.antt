-- A cell written and read, a cell read and written: once over the half of an integer and the width of a reference.
use mathlib.Core.Path.{◌≡◌, refl, sym, ◌∙◌, ap}
use mathlib.Core.Bool.{Bool, true, false}
use Prim.Native.Nat.{ℕ, zero, suc, ◌+◌, ◌<◌, ◌≤◌, ◌^◌}
use native.Mathlib.Omega.{arith}
use lib.Dec.{eqb, lit<}
use borrow.Author.Tests.{ne_eqb, eqb-true, eqb-false, le-ltb}
use lib.IntN.{ℤ, pos, ◌-ℤ◌}
use Rattle.common.specs.Choice.{when◌then◌else◌}
use Rattle.common.specs.Answers.{Place, gives, refused}
use Rattle.common.proofs.Bools.{clash}
use Rattle.cell.specs.declared.form.ColumnType.{ColumnType}
use Rattle.cell.specs.declared.form.ColumnType.TheVariants.{Int16, Int32, Str, Binary}
use Rattle.cell.specs.Cells.{is_binary_lem, width, integer, stored, unstored, integer_cell, reference_cell, binary_cell, reference_number}
use Rattle.cell.specs.inner.Signed.{unbiased}
use Rattle.cell.proofs.Halves.{sub_is, near_mag, near_unbiased, biased-lt, biased-some, unbiased-biased, biased-unbiased, integer-given}
use Rattle.cell.proofs.Numbers.{integer-number, reference-number}
use Rattle.cell.proofs.Cells.{reference-any, reference-short}
use Rattle.cell.specs.Promises.{reads_as, CellReadBack}

abbrev null_or : Bool → ℕ × ℤ → ℕ × ℤ
null_or b v = when b then (0, pos 0) else v

-- an integer that was stored
int_back : (half : ℕ) (at : Place) (z : ℤ) (m : ℕ) → integer half at z ≡ gives m → integer_cell half m ≡ (1, z)
int_back half at z m e =
    let f = integer-number half at z m e in
    let some : 0 < m = rw f.1 at (biased-some half z f.0) in
    let v : pos m -ℤ pos half ≡ z = sub_is m half ∙ ap (unbiased half) (sym f.1) ∙ unbiased-biased half z (near_mag half z f.0) in
    rw (ne_eqb m 0 (λ i. omega arith), v)

int_lt : (half : ℕ) (at : Place) (z : ℤ) (m : ℕ) → integer half at z ≡ gives m → m < half + half
int_lt half at z m e = let f = integer-number half at z m e in rw (← f.1) (biased-lt half z (near_mag half z f.0))

-- an integer that was read
int_again : (half : ℕ) (at : Place) (m : ℕ) → 0 < m → m < half + half → integer half at (pos m -ℤ pos half) ≡ gives m
int_again half at m p h = rw (sub_is m half) (integer-given half at (unbiased half m) (near_unbiased m half p h) ∙ ap gives (biased-unbiased half m))

-- ---- the kinds that a column takes

int_kinds : (half : ℕ) (at : Place) (k : ℕ) (z : ℤ) (m : ℕ) (a b : Bool) → eqb k 0 ≡ a → eqb k 1 ≡ b
    → (when a then gives 0 else when b then integer half at z else refused 16 at) ≡ gives m → integer_cell half m ≡ reads_as k z
int_kinds half at k z m true b p q e = let i : 0 ≡ m = cc in rw (← i, p)
int_kinds half at k z m false false p q e = clash (cc)
int_kinds half at k z m false true p q e = rw (eqb-true k 1 q) (int_back half at z m e)

module _ (max : ℕ) (long : Bool) (at : Place) (k : ℕ) (z : ℤ) (m : ℕ) where
  ref_kinds : (a b : Bool) → eqb k 0 ≡ a → eqb k 2 ≡ b → (when a then gives 0 else when b then reference_number long at z else refused 16 at) ≡ gives m → reference_cell m ≡ reads_as k z
  ref_kinds true b p q e = let i : 0 ≡ m = cc in rw (← i, p)
  ref_kinds false false p q e = clash (cc)
  ref_kinds false true p q e =
      let two : k ≡ 2 = eqb-true k 2 q in
      let r = reference-number long at z m e in
      rw (two, r.is, ne_eqb m 0 (λ i. let l = r.least in omega arith))

binary_kinds : (at : Place) (k : ℕ) (z : ℤ) (m : ℕ) (a b : Bool) → eqb k 0 ≡ a → eqb k 3 ≡ b → (when a then gives 0 else when b then gives 1 else refused 16 at) ≡ gives m → binary_cell m ≡ reads_as k z
binary_kinds at k z m true b p q e = let i : 0 ≡ m = cc in rw (← i, p)
binary_kinds at k z m false true p q e = let i : 1 ≡ m = cc in rw (← i, eqb-true k 3 q)
binary_kinds at k z m false false p q e = clash (cc)

pub cell-read_back : CellReadBack
cell-read_back Int16 long at k z m e = int_kinds 32768 at k z m (eqb k 0) (eqb k 1) refl refl e
cell-read_back Int32 long at k z m e = int_kinds 2147483648 at k z m (eqb k 0) (eqb k 1) refl refl e
cell-read_back (Str max) long at k z m e = ref_kinds max long at k z m (eqb k 0) (eqb k 2) refl refl e
cell-read_back Binary long at k z m e = binary_kinds at k z m (eqb k 0) (eqb k 3) refl refl e

-- ---- a stored number fits its width

int_fits : (half : ℕ) (at : Place) (z : ℤ) (m : ℕ) (a b : Bool) → 0 < half → (when a then gives 0 else when b then integer half at z else refused 16 at) ≡ gives m → m < half + half
int_fits half at z m true b p e = let i : 0 ≡ m = cc in omega arith
int_fits half at z m false true p e = int_lt half at z m e
int_fits half at z m false false p e = clash (cc)

ref_fits : (long : Bool) (at : Place) (z : ℤ) (m : ℕ) (a b : Bool) → (when a then gives 0 else when b then reference_number long at z else refused 16 at) ≡ gives m → m < 256 ^ (when long then 3 else 2)
ref_fits true at z m true b e = let i : 0 ≡ m = cc in omega arith
ref_fits false at z m true b e = let i : 0 ≡ m = cc in omega arith
ref_fits true at z m false true e = let r = (reference-number true at z m e).most in omega arith
ref_fits false at z m false true e = let r = (reference-number false at z m e).short refl in omega arith
ref_fits long at z m false false e = clash (cc)

pub stored-fits : (t : ColumnType) (long : Bool) (at : Place) (k : ℕ) (z : ℤ) (m : ℕ) → stored t long at k z ≡ gives m → m < 256 ^ width t long
stored-fits Int16 long at k z m e = int_fits 32768 at z m (eqb k 0) (eqb k 1) (lit< tt) e
stored-fits Int32 long at k z m e = int_fits 2147483648 at z m (eqb k 0) (eqb k 1) (lit< tt) e
stored-fits (Str max) long at k z m e = ref_fits long at z m (eqb k 0) (eqb k 2) e
stored-fits Binary long at k z m e = go (eqb k 0) (eqb k 3) e
  where
    go : (a b : Bool) → (when a then gives 0 else when b then gives 1 else refused 16 at) ≡ gives m → m < 65536
    go true b f = let i : 0 ≡ m = cc in omega arith
    go false true f = let i : 1 ≡ m = cc in omega arith
    go false false f = clash (cc)

-- ---- what was read is stored as it was

one : (k : ℕ) → (k ≡ 0 → ⊥) → 1 ≤ k
one zero z = absurd (z refl)
one (suc k) z = omega arith

int_stored : (half : ℕ) (at : Place) (m : ℕ) (b : Bool) → eqb m 0 ≡ b → m < half + half
    → (when eqb (null_or b (1, pos m -ℤ pos half)).0 0 then gives 0 else when eqb (null_or b (1, pos m -ℤ pos half)).0 1 then integer half at (null_or b (1, pos m -ℤ pos half)).1 else refused 16 at) ≡ gives m
int_stored half at m true q h = ap gives (sym (eqb-true m 0 q))
int_stored half at m false q h = int_again half at m (one m (eqb-false m 0 q)) h

ref_stored : (long : Bool) (at : Place) (m : ℕ) (b : Bool) → eqb m 0 ≡ b → m < 256 ^ (when long then 3 else 2)
    → (when eqb (null_or b (2, pos m)).0 0 then gives 0 else when eqb (null_or b (2, pos m)).0 2 then reference_number long at (null_or b (2, pos m)).1 else refused 16 at) ≡ gives m
ref_stored long at m true q h = ap gives (sym (eqb-true m 0 q))
ref_stored true at m false q h =
    let n = eqb-false m 0 q in
    sym (reference-any true at (pos m) (le-ltb m 1 (one m n)) (le-ltb 16777215 m (omega arith)) refl)
ref_stored false at m false q h =
    let n = eqb-false m 0 q in
    sym (reference-short false at (pos m) (le-ltb m 1 (one m n)) (le-ltb 16777215 m (omega arith)) (omega arith))

bin_stored : (at : Place) (m : ℕ) (b : Bool) → eqb m 0 ≡ b → m ≤ 1
    → (when eqb (null_or b (3, pos 0)).0 0 then gives 0 else when eqb (null_or b (3, pos 0)).0 3 then gives 1 else refused 16 at) ≡ gives m
bin_stored at m true q h = ap gives (sym (eqb-true m 0 q))
bin_stored at m false q h = let p = one m (eqb-false m 0 q) in ap gives (omega arith)

pub stored-again : (t : ColumnType) (long : Bool) (at : Place) (m : ℕ) → (is_binary_lem t ≡ true → m ≤ 1) → m < 256 ^ width t long → stored t long at (unstored t m).0 (unstored t m).1 ≡ gives m
stored-again Int16 long at m n h = int_stored 32768 at m (eqb m 0) refl h
stored-again Int32 long at m n h = int_stored 2147483648 at m (eqb m 0) refl h
stored-again (Str max) long at m n h = ref_stored long at m (eqb m 0) refl h
stored-again Binary long at m n h = bin_stored at m (eqb m 0) refl (n refl)

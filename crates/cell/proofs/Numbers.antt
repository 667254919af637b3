-- The number of a cell that can be stored, and of one that was handed over.
use mathlib.Core.Path.{◌≡◌, refl, sym, ◌∙◌, ap}
use mathlib.Core.Bool.{Bool, true, false, not, ◌&&◌}
use Prim.Native.Nat.{ℕ, ◌<◌, ◌≤◌}
use native.Mathlib.Omega.{arith}
use borrow.Author.Tests.{ltb-true, ltb-false, eqb-true, eqb-false, ne_eqb, leb-false}
use lib.Dec.{eqb, ltb, leb}
use lib.IntN.{ℤ, pos, negsuc, nat_abs, ◌+ℤ◌}
use lib.Signed.{lt_z}
use Rattle.common.specs.Choice.{when◌then◌else◌}
use Rattle.common.specs.Answers.{Place, gives, refused}
use Rattle.common.proofs.Bools.{clash}
use Rattle.cell.specs.declared.value.Cell.{Cell}
use Rattle.cell.specs.declared.value.Cell.TheVariants as cell
use Rattle.cell.specs.Handed.{unknown, cell_of, handed_kind, handed_number}
use Rattle.cell.specs.declared.form.ColumnType.{ColumnType}
use Rattle.cell.specs.declared.form.ColumnType.TheVariants.{Int16, Int32, Str, Binary}
use Rattle.cell.specs.Cells.{stored, integer, reference_number}
use Rattle.cell.specs.inner.Signed.{biased}
use Rattle.cell.proofs.Halves.{add-biased, near_mag}

-- ---- what was handed over, by kind and number

module _ (long : Bool) (at : Place) where
  null_any : (t : ColumnType) (m n : ℤ) → stored t long at 0 m ≡ stored t long at 0 n
  null_any Int16 m n = refl
  null_any Int32 m n = refl
  null_any (Str max) m n = refl
  null_any Binary m n = refl

  binary_any : (t : ColumnType) (m n : ℤ) → stored t long at 3 m ≡ stored t long at 3 n
  binary_any Int16 m n = refl
  binary_any Int32 m n = refl
  binary_any (Str max) m n = refl
  binary_any Binary m n = refl

  pub unknown-kind : (t : ColumnType) (k : ℕ) (n : ℤ) → eqb k 0 ≡ false → eqb k 1 ≡ false → eqb k 2 ≡ false → eqb k 3 ≡ false → stored t long at k n ≡ refused 16 at
  unknown-kind Int16 k n a b c d = rw (a, b)
  unknown-kind Int32 k n a b c d = rw (a, b)
  unknown-kind (Str max) k n a b c d = rw (a, c)
  unknown-kind Binary k n a b c d = rw (a, d)

  pub handed-stored : (t : ColumnType) (k : ℕ) (n : ℤ) → stored t long at (handed_kind (cell_of k n)) (handed_number (cell_of k n)) ≡ stored t long at k n
  handed-stored t k n = go (unknown k) (eqb k 0) (eqb k 1) (eqb k 2) refl refl refl refl
    where
      pick : Bool → Bool → Bool → Bool → Cell
      pick u a b c = when u then cell.Unknown else when a then cell.Null else when b then cell.Int n else when c then cell.Str n else cell.Binary

      go : (u a b c : Bool) → unknown k ≡ u → eqb k 0 ≡ a → eqb k 1 ≡ b → eqb k 2 ≡ c
          → stored t long at (handed_kind (pick u a b c)) (handed_number (pick u a b c)) ≡ stored t long at k n
      go true a b c h p q r =
          let more = ltb-true 3 k h in
          let none : (m : ℕ) → m ≤ 3 → eqb k m ≡ false = λ m few. ne_eqb k m (λ e. omega (arith, e)) in
          unknown-kind t 4 (pos 0) refl refl refl refl ∙ sym (unknown-kind t k n (none 0 (omega arith)) (none 1 (omega arith)) (none 2 (omega arith)) (none 3 (omega arith)))
      go false true b c h p q r = rw (eqb-true k 0 p) (null_any t (pos 0) n)
      go false false true c h p q r = rw (eqb-true k 1 q)
      go false false false true h p q r = rw (eqb-true k 2 r)
      go false false false false h p q r =
          let three : k ≡ 3 = omega (arith, ltb-false 3 k h, eqb-false k 0 p, eqb-false k 1 q, eqb-false k 2 r) in
          rw three (binary_any t (pos 0) n)

-- ---- an integer that was stored

pub integer-number : (half : ℕ) (at : Place) (z : ℤ) (m : ℕ) → integer half at z ≡ gives m → (nat_abs z < half) × (biased half z ≡ m)
integer-number half at z m e = go (leb half (nat_abs z)) refl e
  where
    go : (b : Bool) → leb half (nat_abs z) ≡ b → (when b then refused 17 at else gives (nat_abs (z +ℤ pos half))) ≡ gives m → (nat_abs z < half) × (biased half z ≡ m)
    go true q r = clash (cc)
    go false q r =
        let g = leb-false half (nat_abs z) q in
        let is : nat_abs (z +ℤ pos half) ≡ m = cc in
        (g, sym (ap nat_abs (add-biased half z (near_mag half z g))) ∙ is)

-- what a stored reference says of its number
pub record Referred (long : Bool) (z : ℤ) (m : ℕ) : Type 0 where
  pub is : z ≡ pos m
  pub least : 0 < m
  pub most : m ≤ 16777215
  pub short : long ≡ false → m ≤ 65535

pub reference-number : (long : Bool) (at : Place) (z : ℤ) (m : ℕ) → reference_number long at z ≡ gives m → Referred long z m
reference-number long at z m e = go z (lt_z z (pos 1)) (lt_z (pos 16777215) z) (not long && lt_z (pos 65535) z) refl refl refl e
  where
    short-le : (l : Bool) (n : ℕ) → (not l && ltb 65535 n) ≡ false → l ≡ false → n ≤ 65535
    short-le true n q h = clash (cc)
    short-le false n q h = ltb-false 65535 n q

    go : (y : ℤ) (a b c : Bool) → lt_z y (pos 1) ≡ a → lt_z (pos 16777215) y ≡ b → (not long && lt_z (pos 65535) y) ≡ c → reference_number long at y ≡ gives m → Referred long y m
    go y true b c p q r f = clash (let g = rw p at f in cc)
    go y false true c p q r f = clash (let g = rw (p, q) at f in cc)
    go y false false true p q r f = clash (let g = rw (p, q, r) at f in cc)
    go (pos n) false false false p q r f =
        let g : gives n ≡ gives m = rw (p, q, r) at f in
        let same : n ≡ m = cc in
        record {
          is = ap pos same;
          least = rw same at (ltb-false n 1 p);
          most = rw same at (ltb-false 16777215 n q);
          short = λ h. rw same at (short-le long n r h);
        }
    go (negsuc n) false false false p q r f = clash (cc)

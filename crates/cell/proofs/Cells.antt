-- Forms and the types they stand for; cells that can be stored.
use mathlib.Core.Path.{◌≡◌, refl}
use mathlib.Core.Bool.{Bool, true, false, ◌||◌}
use Prim.Native.Nat.{ℕ, ◌≤◌}
use borrow.Author.Tests.{le-ltb}
use lib.Dec.{lit≤}
use lib.IntN.{ℤ, pos, negsuc, nat_abs}
use lib.Signed.{lt_z}
use Rattle.common.specs.Choice.{when◌then◌else◌}
use Rattle.common.specs.Answers.{Place, nowhere, gives, refused}
use Rattle.common.proofs.Bools.{clash}
use Rattle.common.specs.Refs.{reference}
use Rattle.cell.specs.declared.form.ColumnType.{ColumnType}
use Rattle.cell.specs.declared.form.ColumnType.TheVariants.{Int16, Int32, Str, Binary}
use Rattle.cell.specs.Cells.{width, stored, unstored, reference_number}
use Rattle.cell.specs.Forms.{form_for, type_in, long_in}

-- ---- a column's cells are those of its form

module _ (long : Bool) where
  pub form-width : (t : ColumnType) → width t long ≡ width (type_in (form_for t long)) (long_in (form_for t long))
  form-width Int16 = refl
  form-width Int32 = refl
  form-width (Str max) = go long
    where
      go : (l : Bool) → width (Str max) l ≡ width (type_in (form_for (Str max) l)) (long_in (form_for (Str max) l))
      go true = refl
      go false = refl
  form-width Binary = refl

  pub form-stored : (t : ColumnType) (at : Place) (kind : ℕ) (n : ℤ) → stored t long at kind n ≡ stored (type_in (form_for t long)) (long_in (form_for t long)) at kind n
  form-stored Int16 at kind n = refl
  form-stored Int32 at kind n = refl
  form-stored (Str max) at kind n = go long
    where
      go : (l : Bool) → stored (Str max) l at kind n ≡ stored (type_in (form_for (Str max) l)) (long_in (form_for (Str max) l)) at kind n
      go true = refl
      go false = refl
  form-stored Binary at kind n = refl

  pub form_unstored : (t : ColumnType) (n : ℕ) → unstored t n ≡ unstored (type_in (form_for t long)) n
  form_unstored Int16 n = refl
  form_unstored Int32 n = refl
  form_unstored (Str max) n = go long
    where
      go : (l : Bool) → unstored (Str max) n ≡ unstored (type_in (form_for (Str max) l)) n
      go true = refl
      go false = refl
  form_unstored Binary n = refl

-- ---- widths

pub width-le : (t : ColumnType) (long : Bool) → width t long ≤ 4
width-le Int16 long = lit≤ tt
width-le Int32 long = lit≤ tt
width-le (Str max) true = lit≤ tt
width-le (Str max) false = lit≤ tt
width-le Binary long = lit≤ tt

-- ---- reference numbers

pub record Good (z w : ℤ) : Type 0 where
  pub same : w ≡ z
  pub low : lt_z z (pos 1) ≡ false
  pub high : lt_z (pos 16777215) z ≡ false

pub good : (z w : ℤ) → gives w ≡ reference nowhere z → Good z w
good z w e = go (lt_z z (pos 1)) (lt_z (pos 16777215) z) refl refl e
  where
    go : (a b : Bool) → lt_z z (pos 1) ≡ a → lt_z (pos 16777215) z ≡ b → gives w ≡ (when a || b then refused 8 nowhere else gives z) → Good z w
    go true b p q r = clash (cc)
    go false true p q r = clash (cc)
    go false false p q r = record { same = cc; low = p; high = q }

module _ (long : Bool) (at : Place) (z : ℤ) where
  pub reference-any : lt_z z (pos 1) ≡ false → lt_z (pos 16777215) z ≡ false → long ≡ true → gives (nat_abs z) ≡ reference_number long at z
  reference-any l h s = rw (l, h, s)

  pub reference-short : lt_z z (pos 1) ≡ false → lt_z (pos 16777215) z ≡ false → nat_abs z ≤ 65535 → gives (nat_abs z) ≡ reference_number long at z
  reference-short l h m = go z l h m long
    where
      go : (y : ℤ) → lt_z y (pos 1) ≡ false → lt_z (pos 16777215) y ≡ false → nat_abs y ≤ 65535 → (b : Bool) → gives (nat_abs y) ≡ reference_number b at y
      go (pos n) l' h' m' true = rw (l', h')
      go (pos n) l' h' m' false = rw (l', h', le-ltb 65535 n m')
      go (negsuc n) l' h' m' b = clash (cc)

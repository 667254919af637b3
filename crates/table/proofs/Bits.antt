-- A layout from bitfields: a column at its place, and the columns made so far.
use mathlib.Core.Path.{◌≡◌, refl, sym, ap}
use mathlib.Core.Bool.{Bool, true, false, ◌||◌}
use mathlib.Core.List.{List, ◌∷◌}
use Prim.Native.Nat.{ℕ, suc, ◌+◌, ◌<◌}
use native.Mathlib.Numerals.{add-one}
use native.Mathlib.Omega.{arith}
use lib.Dec.{eqb}
use lib.IntN.{ℤ}
use lib.ListN.{length, set}
use Rattle.common.specs.Choice.{when◌then◌else◌}
use Rattle.common.specs.Lists.{over_at}
use Rattle.common.specs.Answers.{Place, column, Answer, gives, refused, on_given}
use Rattle.cell.specs.declared.form.ColumnType.{ColumnType}
use Rattle.cell.specs.declared.form.ColumnType.TheVariants.{Int16, Int32, Str, Binary}
use Rattle.column.specs.declared.column.Column.{Column}
use Rattle.column.specs.declared.column.ColumnBuilder.{ColumnBuilder}
use Rattle.column.specs.Bits.{bits_of, has, without, size, type_from}
use Rattle.column.specs.Columns.{bits_column}
use Rattle.common.proofs.Parts.{over_set}
use Rattle.widths.specs.Judged.{each_at}

-- ---- the place of a column changes its refusal alone

data Placed (c n : ℕ) : Type 0 where
  known : (t : ColumnType) → type_from 0 n ≡ gives t → type_from c n ≡ gives t → Placed c n
  bad : type_from 0 n ≡ refused 13 (column 0) → type_from c n ≡ refused 13 (column c) → Placed c n

placed : (c n : ℕ) → Placed c n
placed c n = go (eqb (without 0x1000 n) 0x900) refl (has 0x800 n) refl (eqb (size n) 4) refl (eqb (size n) 2 || eqb (size n) 1) refl
  where
    go : (a : Bool) → eqb (without 0x1000 n) 0x900 ≡ a → (b : Bool) → has 0x800 n ≡ b → (d : Bool) → eqb (size n) 4 ≡ d → (e : Bool) → (eqb (size n) 2 || eqb (size n) 1) ≡ e → Placed c n
    go true p b q d r e s = known Binary (rw p) (rw p)
    go false p true q d r e s = known (Str (size n)) (rw (p, q)) (rw (p, q))
    go false p false q true r e s = known (when has 0x400 n then Binary else Int32) (rw (p, q, r)) (rw (p, q, r))
    go false p false q false r true s = known Int16 (rw (p, q, r, s)) (rw (p, q, r, s))
    go false p false q false r false s = bad (rw (p, q, r, s)) (rw (p, q, r, s))

module _ (b : ColumnBuilder) (c : ℕ) (n : ℤ) where
  pub bits-given : (y : Column) → gives y ≡ bits_column b 0 n → bits_column b c n ≡ gives y
  bits-given y e = go (placed c (bits_of n))
    where
      go : Placed c (bits_of n) → bits_column b c n ≡ gives y
      go (known t p q) = rw q (sym (rw p at e))
      go (bad p q) = absurd (let f = rw p at e in let z : ◌≡◌ {A = ℕ} 0 1 = cc in omega arith)

  pub bits-bad : (m : ℕ) (at : Place) → refused m at ≡ bits_column b 0 n → bits_column b c n ≡ refused 13 (column c)
  bits-bad m at e = go (placed c (bits_of n))
    where
      go : Placed c (bits_of n) → bits_column b c n ≡ refused 13 (column c)
      go (known t p q) = absurd (let f = rw p at e in let z : ◌≡◌ {A = ℕ} 0 1 = cc in omega arith)
      go (bad p q) = rw q

-- ---- one more column, stored; and one that is refused

module _ {A B : Type 0} (f : ℕ → A → Answer B) (x : A) (xs : List A) (c : ℕ) (l : List B) where
  pub bits-turn : (y : B) → f c x ≡ gives y → c < length l
      → on_given (each_at f (c + 1) xs) (λ ys. gives (over_at (c + 1) ys (set l c y))) ≡ on_given (each_at f c (x ∷ xs)) (λ ys. gives (over_at c ys l))
  bits-turn y e h = rw (add-one, e) (go (each_at f (suc c) xs))
    where
      go : (a : Answer (List B)) → on_given a (λ ys. gives (over_at (suc c) ys (set l c y))) ≡ on_given (on_given a (λ ys. gives (y ∷ ys))) (λ ys. gives (over_at c ys l))
      go (gives ys) = ap gives (rw add-one at (over_set y ys l c h))
      go (refused n at) = refl

  pub bits-stop : (n : ℕ) (at : Place) → f c x ≡ refused n at → refused n at ≡ on_given (each_at f c (x ∷ xs)) (λ ys. gives (over_at c ys l))
  bits-stop n at e = rw e

-- ---- the layout that they make is refused as they are

pub laid_stop : {A B : Type 0} (a : Answer A) (f : A → List Column) (g : A → B) (n : ℕ) (at : Place) → refused n at ≡ on_given a (λ xs. gives (f xs)) → refused n at ≡ on_given a (λ xs. gives (g xs))
laid_stop (gives xs) f g n at q = absurd (let z : ◌≡◌ {A = ℕ} 0 1 = cc in omega arith)
laid_stop (refused m p) f g n at q = cc

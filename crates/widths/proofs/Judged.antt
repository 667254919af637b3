-- The columns in use, and what their judge says of them.
use mathlib.Core.Path.{◌≡◌, refl, sym, ◌∙◌}
use mathlib.Core.Bool.{Bool, true, false}
use mathlib.Core.List.{List, [], ◌∷◌, map}
use Prim.Native.Nat.{ℕ, zero, suc, ◌+◌, ◌<◌, ◌≤◌}
use native.Mathlib.Numerals.{add-one}
use native.Mathlib.Omega.{arith}
use lib.Dec.{ltb}
use borrow.Author.Tests.{le-ltb, ltb-false}
use lib.ListN.{length, get_or, drop, length-map}
use lib.Seq.{length-take-le, slice-cons}
use Rattle.common.specs.Choice.{when◌then◌else◌}
use Rattle.common.specs.Answers.{Place, nowhere, column, Answer, gives, refused, on_given, refusal_of}
use Rattle.common.proofs.Bools.{clash}
use Rattle.common.proofs.Answers.{given, given_refusal, after-given, after-refused, passed}
use Rattle.cell.specs.declared.form.CellForm.{CellForm}
use Rattle.cell.specs.declared.form.ColumnType.{ColumnType}
use Rattle.cell.specs.declared.form.ColumnType.TheVariants.{Int16, Int32, Str, Binary}
use Rattle.column.specs.declared.column.Column.{Column}
use Rattle.cell.specs.Forms.{form_for, form_answer, sound_type}
use Rattle.column.specs.Columns.{building, finished}
use Rattle.widths.specs.Judged.{each_at, used_columns, used_types, sound_column, sound_columns, on_sound_columns}
use Rattle.widths.specs.Widths.{type_at}

abbrev pub no_column : Column
no_column = finished building Int16

module _ (columns : List Column) (count : ℕ) (few : count ≤ 64) (e : length columns ≡ 64) where
  pub used : length (used_columns columns count) ≡ count
  used = length-take-le count columns (omega arith)

  pub types_count : length (used_types columns count) ≡ count
  types_count = length-map (used_columns columns count) (λ (x : Column). x.coltype) ∙ used

  pub columns_next : (c : ℕ) → c < count → drop c (used_columns columns count) ≡ get_or columns c no_column ∷ drop (c + 1) (used_columns columns count)
  columns_next c h = rw add-one (slice-cons c count columns no_column h (omega arith))

type-in : (xs : List Column) (c : ℕ) → type_at (map (λ (x : Column). x.coltype) xs) c ≡ (get_or xs c no_column).coltype
type-in [] c = refl
type-in (x ∷ xs) zero = refl
type-in (x ∷ xs) (suc c) = type-in xs c

-- ---- one more column, judged; and one that is refused

module _ {A B : Type 0} (f : ℕ → A → Answer B) (x : A) (xs : List A) (c : ℕ) where
  pub at_turn : refusal_of (f c x) ≡ gives tt → refusal_of (each_at f (c + 1) xs) ≡ refusal_of (each_at f c (x ∷ xs))
  at_turn e = rw add-one (sym (after-given (f c x) _ e (refusal_of (each_at f (suc c) xs)) (λ y. given_refusal (each_at f (suc c) xs) (λ ys. y ∷ ys))))

  pub at_stop : (m : ℕ) (p : Place) → refusal_of (f c x) ≡ refused m p → refused m p ≡ refusal_of (each_at f c (x ∷ xs))
  at_stop m p e = rw (after-refused (f c x) (λ y. on_given (each_at f (suc c) xs) (λ ys. gives (y ∷ ys))) m p e)

-- what the form of a column says of it
pub form_said : (c : ℕ) (x : Column) (long : Bool) → refusal_of (form_answer c x.coltype long) ≡ refusal_of (sound_column c x)
form_said c x long = given_refusal (sound_type c x.coltype) (λ u. form_for u long) ∙ sym (given_refusal (sound_type c x.coltype) (λ u. x))

-- and the form where it is given
pub form_made : (c : ℕ) (t : ColumnType) (long : Bool) (f : CellForm) → gives f ≡ form_answer c t long → f ≡ form_for t long
form_made c Int16 long f e = given e
form_made c Int32 long f e = given e
form_made c (Str max) long f e = go (ltb 255 max) e
  where
    go : (b : Bool) → gives f ≡ on_given (when b then refused 19 (column c) else gives (Str max)) (λ u. gives (form_for u long)) → f ≡ form_for (Str max) long
    go true e = clash (cc)
    go false e = given e
form_made c Binary long f e = given e

-- ---- what a call answers, after the judge

pub columns_refused : {A : Type 0} (columns : List Column) (count : ℕ) (a : Answer A) (n : ℕ) (at : Place) → refused n at ≡ refusal_of (sound_columns columns count) → refused n at ≡ on_sound_columns columns count a
columns_refused columns count a n at e = sym (after-refused (sound_columns columns count) (λ xs. a) n at (sym e))

pub columns_passed : {A : Type 0} (columns : List Column) (count : ℕ) (a : Answer A) → gives tt ≡ refusal_of (sound_columns columns count) → on_sound_columns columns count a ≡ a
columns_passed columns count a e = passed (sound_columns columns count) a e

pub judged-is : (columns : List Column) (count : ℕ) → count ≤ 64 → sound_columns columns count ≡ each_at sound_column 0 (used_columns columns count)
judged-is columns count few = rw (le-ltb 64 count few)

few-columns : (n : ℕ) (b : Bool) → ltb 64 n ≡ b → (x : Answer (List Column)) → gives tt ≡ refusal_of (when b then refused 20 nowhere else x) → n ≤ 64
few-columns n true q x e = clash (cc)
few-columns n false q x e = ltb-false 64 n q

pub count-few : (columns : List Column) (count : ℕ) → gives tt ≡ refusal_of (sound_columns columns count) → count ≤ 64
count-few columns count e = few-columns count (ltb 64 count) refl (each_at sound_column 0 (used_columns columns count)) e

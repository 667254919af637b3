-- The first bad column, where its type is unknown.
use mathlib.Core.Path.{◌≡◌, refl, sym, ap, ◌∙◌}
use Prim.Native.Nat.{ℕ, zero, suc, ◌+◌, ◌≤◌, ◌<◌}
use mathlib.Core.Bool.{true}
use mathlib.Core.List.{List, [], ◌∷◌, map}
use native.Mathlib.Omega.{arith}
use native.Mathlib.Nat.{not-suc-le-zero, le_of_suc-le-suc}
use lib.ListN.{length, take, get_or, length-map}
use lib.Seq.{get_or-take, length-take-le}
use borrow.Author.Tests.{le-ltb}
use Rattle.common.specs.Sizes.{max_string}
use Rattle.common.specs.Answers.{Place, Answer, gives, refused, column, on_given}
use Rattle.common.proofs.Outcomes.{refused-gives}
use Rattle.column.specs.Columns.{building}
use Rattle.cell.specs.declared.form.ColumnType.TheVariants as types
use Rattle.widths.specs.Judged.{each_at, sound_column}
use Rattle.table.specs.Layout.{columns_of}
use Rattle.c_types.specs.Columns.{coltype_in, column_from, builder_out_lem}
use Rattle.c_types.specs.Promises.{UnknownType}
use Rattle.c_types.specs.Tables.{table_in_lem}
use Rattle.cell.specs.Handed.{unknown}
use Rattle.c_types.specs.declared.answers.ColumnParts.{ColumnParts}

-- what stands past the columns
abbrev past : ColumnParts
past = builder_out_lem building

type-in : (none : ColumnParts) (xs : List ColumnParts) (c : ℕ) → none.coltype ≡ 0 → get_or (map (λ (p : ColumnParts). p.coltype) xs) c 0 ≡ (get_or xs c none).coltype
type-in none [] c e = sym e
type-in none (x ∷ xs) zero e = refl
type-in none (x ∷ xs) (suc c) e = type-in none xs c e

-- all before it pass, it does not: so the judge stops there
module _ {A B : Type 0} (f : ℕ → A → Answer B) (none : A) (n : ℕ) (at : Place) where
  passed : (a : Answer B) (b rest : Answer (List B)) {ys : List B} → on_given a (λ y. on_given b (λ zs. gives (y ∷ zs))) ≡ gives ys → ((zs : List B) → b ≡ gives zs → rest ≡ refused n at)
      → on_given a (λ y. on_given rest (λ zs. gives (y ∷ zs))) ≡ refused n at
  passed (gives y) (gives zs) rest e more = ap (λ (r : Answer (List B)). on_given r (λ zs. gives (y ∷ zs))) (more zs refl)
  passed (gives y) (refused m p) rest e more = absurd (refused-gives e)
  passed (refused m p) b rest e more = absurd (refused-gives e)

  stops : (xs : List A) (k c : ℕ) {ys : List B} → c < length xs → each_at f k (take c xs) ≡ gives ys → f (k + c) (get_or xs c none) ≡ refused n at → each_at f k xs ≡ refused n at
  stops [] k c h before e = absurd (not-suc-le-zero h)
  stops (x ∷ xs) k zero h before e =
      let here : k ≡ k + 0 = omega arith in
      ap (λ (a : Answer B). on_given a (λ y. on_given (each_at f (suc k) xs) (λ zs. gives (y ∷ zs)))) (ap (λ (i : ℕ). f i x) here ∙ e)
  stops (x ∷ xs) k (suc c) h before e =
      let on : suc k + c ≡ k + suc c = omega arith in
      passed (f k x) (each_at f (suc k) (take c xs)) (each_at f (suc k) xs) before (λ zs b. stops xs (suc k) c (le_of_suc-le-suc h) b (ap (λ (i : ℕ). f i (get_or xs c none)) on ∙ e))

unknown-type : (p : ColumnParts) → unknown p.coltype ≡ true → coltype_in p ≡ types.Str (max_string + 1)
unknown-type p e = rw e

unknown-column : (c : ℕ) (p : ColumnParts) → unknown p.coltype ≡ true → sound_column c (column_from p) ≡ refused 19 (column c)
unknown-column c p e = rw (unknown-type p e)

from-map : (xs : List ColumnParts) (c : ℕ) → get_or (map column_from xs) c (column_from past) ≡ column_from (get_or xs c past)
from-map [] c = refl
from-map (x ∷ xs) zero = refl
from-map (x ∷ xs) (suc c) = from-map xs c

pub unknown-type_16 : UnknownType
unknown-type_16 t c whole few used before e =
    let all = map column_from t.columns in
    let long : t.count ≤ length all = omega (arith, few, whole, length-map t.columns column_from) in
    let p = get_or t.columns c past in
    let inside : c < length (columns_of (table_in_lem t)) = omega (arith, used, length-take-le t.count all long) in
    let bad : unknown p.coltype ≡ true = ap unknown (sym (type-in past t.columns c refl)) ∙ e in
    let here : get_or (columns_of (table_in_lem t)) c (column_from past) ≡ column_from p = get_or-take t.count all c (column_from past) used ∙ from-map t.columns c in
    let place : 0 + c ≡ c = omega arith in
    let judged : each_at sound_column 0 (columns_of (table_in_lem t)) ≡ refused 19 (column c) =
    stops sound_column (column_from past) 19 (column c) (columns_of (table_in_lem t)) 0 c inside before (rw (place, here) (unknown-column c p bad)) in
    rw (le-ltb 64 t.count few, judged, e)

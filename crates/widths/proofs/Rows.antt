-- Widths and their sums, and where columns begin.
use mathlib.Core.Path.{◌≡◌, refl, sym, ◌∙◌, ap}
use mathlib.Core.Bool.{Bool, true, false}
use mathlib.Core.List.{List, [], ◌∷◌}
use Prim.Native.Nat.{ℕ, zero, suc, ◌+◌, ◌*◌, ◌/◌, ◌<◌, ◌≤◌}
use native.Mathlib.Nat.{not-suc-le-zero, le_of_suc-le-suc, add-zero, zero-add, div-mul-le_self, zero-mul}
use native.Mathlib.Omega.{arith}
use lib.Dec.{lit≤, ltb, eqb}
use borrow.Author.Tests.{ltb-false}
use lib.ListN.{length, get_or, take, drop, length-map, get_or-append}
use Rattle.common.specs.Choice.{when◌then◌else◌}
use Rattle.common.specs.Lists.{◌over◌}
use Rattle.common.specs.Answers.{Answer, nowhere, gives, refused, on_given, refusal_of}
use Rattle.common.proofs.Bools.{clash}
use Rattle.common.proofs.Answers.{given}
use Rattle.cell.specs.declared.form.ColumnType.{ColumnType}
use Rattle.cell.specs.declared.form.ColumnType.TheVariants.{Int16, Int32, Str, Binary}
use Rattle.cell.specs.Cells.{width}
use Rattle.cell.proofs.Cells.{width-le}
use Rattle.column.specs.declared.column.Column.{Column}
use Rattle.widths.specs.Judged.{used_types, sound_columns}
use Rattle.widths.specs.Widths.{widths_in, row_size_lem, type_at, zeros, widths_for, widths_outcome}
use Rattle.widths.specs.declared.places.Places.{Places}
use Rattle.widths.specs.declared.widths.Widths.{Widths}
use Rattle.widths.specs.Places.{rows_in, starts_from, places_for, rows_answer, places_outcome}
use Rattle.widths.proofs.Judged.{count-few}

width_some : (t : ColumnType) (long : Bool) → 0 < width t long
width_some Int16 long = lit≤ tt
width_some Int32 long = lit≤ tt
width_some (Str max) true = lit≤ tt
width_some (Str max) false = lit≤ tt
width_some Binary long = lit≤ tt

module _ (long : Bool) where
  pub length-widths : (ts : List ColumnType) → length (widths_in ts long) ≡ length ts
  length-widths ts = length-map ts (λ (t : ColumnType). width t long)

  width-in : (ts : List ColumnType) (c : ℕ) → c < length ts → get_or (widths_in ts long) c 0 ≡ width (type_at ts c) long
  width-in [] c h = absurd (not-suc-le-zero h)
  width-in (t ∷ ts) zero h = refl
  width-in (t ∷ ts) (suc c) h = width-in ts c (le_of_suc-le-suc h)

  pub column-in : (ts : List ColumnType) (c : ℕ) → c < length ts → row_size_lem (take c ts) long + width (type_at ts c) long ≤ row_size_lem ts long
  column-in [] c h = absurd (not-suc-le-zero h)
  column-in (t ∷ ts) zero h = omega arith
  column-in (t ∷ ts) (suc c) h = omega (arith, column-in ts c (le_of_suc-le-suc h))

  -- a table with a column has a row size
  pub size-some : (ts : List ColumnType) (c : ℕ) → c < length ts → 0 < row_size_lem ts long
  size-some ts c h = omega (arith, column-in ts c h, width_some (type_at ts c) long)

  pub size-le : (ts : List ColumnType) → row_size_lem ts long ≤ 4 * length ts
  size-le [] = omega arith
  size-le (t ∷ ts) = omega (arith, size-le ts, width-le t long)

-- ---- the arrays, at a column in use

length-starts : (rows at : ℕ) (ws : List ℕ) → length (starts_from rows at ws) ≡ length ws
length-starts rows at [] = refl
length-starts rows at (w ∷ ws) = ap suc (length-starts rows (at + w) ws)

get_d_over : (l : List ℕ) (c : ℕ) → c < length l → get_or (l over zeros) c 0 ≡ get_or l c 0
get_d_over l c h = get_or-append l (drop (length l) zeros) 0 c h

start_in : (ts : List ColumnType) (long : Bool) (rows at c : ℕ) → c < length ts → get_or (starts_from rows at (widths_in ts long)) c 0 ≡ rows * (at + row_size_lem (take c ts) long)
start_in [] long rows at c h = absurd (not-suc-le-zero h)
start_in (t ∷ ts) long rows at zero h = ap (λ (n : ℕ). rows * n) (sym (add-zero at))
start_in (t ∷ ts) long rows at (suc c) h =
    let i : at + width t long + row_size_lem (take c ts) long ≡ at + (width t long + row_size_lem (take c ts) long) = omega arith in
    start_in ts long rows (at + width t long) c (le_of_suc-le-suc h) ∙ ap (λ (n : ℕ). rows * n) i

module _ (ts : List ColumnType) (long : Bool) (c : ℕ) (h : c < length ts) where
  pub width-at : get_or (widths_in ts long over zeros) c 0 ≡ width (type_at ts c) long
  width-at = get_d_over (widths_in ts long) c (omega (arith, length-widths long ts)) ∙ width-in long ts c h

  pub start_at : (rows : ℕ) → get_or (starts_from rows 0 (widths_in ts long) over zeros) c 0 ≡ rows * row_size_lem (take c ts) long
  start_at rows =
      get_d_over (starts_from rows 0 (widths_in ts long)) c (omega (arith, length-starts rows 0 (widths_in ts long), length-widths long ts))
      ∙ start_in ts long rows 0 c h
      ∙ ap (λ (n : ℕ). rows * n) (zero-add _)

-- ---- the rows of a stream

-- they lie within it
rows_within : (size n rows : ℕ) (b : Bool) → eqb size 0 ≡ b → rows ≡ (when b then 0 else n / size) → rows * size ≤ n
rows_within size n rows true e q = rw (q, zero-mul) (omega arith)
rows_within size n rows false e q = rw q (div-mul-le_self n size)

pub rows_hold : (ts : List ColumnType) (long : Bool) (bytes : ℕ) → rows_in ts long bytes * row_size_lem ts long ≤ bytes
rows_hold ts long bytes = rows_within (row_size_lem ts long) bytes (rows_in ts long bytes) (eqb (row_size_lem ts long) 0) refl refl

pub record Found (columns : List Column) (count : ℕ) (long : Bool) (bytes rows : ℕ) : Type 0 where
  pub small : bytes ≤ 268435455
  pub sound : gives tt ≡ refusal_of (sound_columns columns count)
  pub narrow : count ≤ 64
  pub is : rows ≡ rows_in (used_types columns count) long bytes
  pub few : rows ≤ 65536

module _ (columns : List Column) (count : ℕ) (long : Bool) (bytes rows : ℕ) where
  abbrev all : ℕ
  all = rows_in (used_types columns count) long bytes

  pub found : rows_answer columns count long bytes ≡ gives rows → Found columns count long bytes rows
  found e = go (ltb 268435455 bytes) refl (sound_columns columns count) refl (ltb 65536 all) refl e
    where
      go : (a : Bool) → ltb 268435455 bytes ≡ a → (x : Answer (List Column)) → sound_columns columns count ≡ x → (b : Bool) → ltb 65536 all ≡ b
          → (when a then refused 22 nowhere else on_given x (λ y. when b then refused 14 nowhere else gives all)) ≡ gives rows → Found columns count long bytes rows
      go true p x q b r f = clash (cc)
      go false p (refused n at) q b r f = clash (cc)
      go false p (gives y) q true r f = clash (cc)
      go false p (gives y) q false r f =
          let same : all ≡ rows = cc in
          let sound : gives tt ≡ refusal_of (sound_columns columns count) = rw q in
          record { small = ltb-false 268435455 bytes p; sound = sound; narrow = count-few columns count sound; is = sym same; few = rw (← same) (ltb-false 65536 all r) }

-- the places are given where the rows are
module _ (columns : List Column) (count : ℕ) (long : Bool) (bytes : ℕ) where
  abbrev places_on : Answer ℕ → Answer Places
  places_on a = on_given a (λ rows. gives (places_for (used_types columns count) long rows))

  pub places_given : (p : Places) → gives p ≡ places_outcome columns count long bytes → (rows_answer columns count long bytes ≡ gives p.rows) × (p ≡ places_for (used_types columns count) long p.rows)
  places_given p e = go (rows_answer columns count long bytes) e
    where
      go : (a : Answer ℕ) → gives p ≡ places_on a → (a ≡ gives p.rows) × (p ≡ places_for (used_types columns count) long p.rows)
      go (gives rows) f =
          let q : p ≡ places_for (used_types columns count) long rows = given f in
          let r : p.rows ≡ rows = ap (λ (x : Places). x.rows) q in
          (ap gives (sym r), q ∙ ap (places_for (used_types columns count) long) (sym r))
      go (refused m k) f = clash (cc)

-- and the widths where the columns are sound
module _ (columns : List Column) (count : ℕ) (long : Bool) where
  abbrev widths_on : Answer (List Column) → Answer Widths
  widths_on a = on_given a (λ xs. gives (widths_for (used_types columns count) long))

  pub widths_given : (w : Widths) → gives w ≡ widths_outcome columns count long → (gives tt ≡ refusal_of (sound_columns columns count)) × (w ≡ widths_for (used_types columns count) long)
  widths_given w e = go (sound_columns columns count) e
    where
      go : (a : Answer (List Column)) → gives w ≡ widths_on a → (gives tt ≡ refusal_of a) × (w ≡ widths_for (used_types columns count) long)
      go (gives xs) f = (refl, given f)
      go (refused m k) f = clash (cc)

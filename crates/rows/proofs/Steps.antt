-- A step of the reader, and the bulk read.
use mathlib.Core.Path.{◌≡◌, refl, sym, ◌∙◌, ap}
use mathlib.Core.Bool.{Bool, true, false, ◌&&◌}
use mathlib.Core.List.{List, [], ◌∷◌}
use Prim.Native.Nat.{ℕ, zero, suc, ◌+◌, ◌*◌, ◌/◌, ◌%◌, ◌<◌, ◌≤◌}
use native.Mathlib.Nat.{div-add-mod', mod-lt, div-lt_iff_lt-mul, mul-zero}
use native.Mathlib.Omega.{arith}
use mathlib.Core.Logic.{⊎_elim}
use lib.Dec.{ltb}
use lib.IntN.{ℤ, pos}
use lib.ListN.{length, get_or, drop, get_or-append}
use borrow.Author.Tests.{lt-ltb, le-ltb, ltb-true, ltb-false}
use Rattle.common.specs.Lists.{◌over◌}
use Rattle.common.specs.Choice.{when◌then◌else◌}
use Rattle.common.specs.Answers.{Place, nowhere, column, Answer, gives, refused, on_given}
use Rattle.common.proofs.Bools.{clash}
use Rattle.common.proofs.Answers.{same_refusal}
use Rattle.cell.proofs.Halves.{lt_or_le}
use Rattle.table.specs.declared.layout.Table.{Table}
use Rattle.cell.specs.declared.form.ColumnType.{ColumnType}
use Rattle.cell.specs.declared.form.ColumnType.TheVariants.{Int16, Int32, Str, Binary}
use Rattle.cell.specs.Forms.{sound_type}
use Rattle.column.specs.declared.column.Column.{Column}
use Rattle.widths.specs.Judged.{each_at, sound_column}
use Rattle.widths.specs.Places.{rows_in}
use Rattle.table.specs.Layout.{columns_of, types_of}
use Rattle.table.specs.Rows.{cell_at, row_by_row}
use Rattle.table.specs.Reading.{num_rows_answer, read_cell_answer, read_rows_outcome}
use Rattle.table.proofs.Grid.{length-grid, grid_at}
use Rattle.rows.specs.Next.{Next, another, none, cells_of, next_outcome}
use Rattle.rows.specs.Promises.{SameCells}

pub positive : (n : ℕ) → (n ≡ 0 → ⊥) → 0 < n
positive zero h = absurd (h refl)
positive (suc n) h = omega arith

module _ (t : Table) (s : List ℕ) (at rows : ℕ) (e : num_rows_answer t s ≡ gives rows) where
  abbrev g : ℕ → ℕ → ℕ × ℤ
  g = cell_at (types_of t) t.long_string_refs rows s

  pub cells_length : length (cells_of t s rows) ≡ rows * t.count
  cells_length = length-grid g (0, pos 0) t.count rows

  pub step_end : rows * t.count ≤ at → next_outcome t s at ≡ (gives none, at)
  step_end h =
      let l = cells_length in
      rw (e, le-ltb at (length (cells_of t s rows)) (omega arith))

  pub step_some : (x : ℕ × ℤ) → at < rows * t.count → get_or (cells_of t s rows) at (0, pos 0) ≡ x → next_outcome t s at ≡ (gives (another x), at + 1)
  step_some x h q =
      let l = cells_length in
      rw (e, lt-ltb at (length (cells_of t s rows)) (omega arith), q)

  module _ (p : 0 < t.count) where
    pub step_past : rows ≤ at / t.count → rows * t.count ≤ at
    step_past h = ⊎_elim (λ (q : at < rows * t.count). absurd (let d = (div-lt_iff_lt-mul {x = at} {y = rows} p).1 q in omega arith)) (λ q. q) (lt_or_le at (rows * t.count))

    pub step_cell : at / t.count < rows → (at < rows * t.count) × (get_or (cells_of t s rows) at (0, pos 0) ≡ g (at / t.count) (at % t.count))
    step_cell h =
        let i : at ≡ at % t.count + at / t.count * t.count = omega (arith, div-add-mod' at t.count) in
        ((div-lt_iff_lt-mul p).0 h, ap (λ (x : ℕ). get_or (cells_of t s rows) x (0, pos 0)) i ∙ grid_at g (0, pos 0) t.count rows (at / t.count) (at % t.count) h (mod-lt at p))

-- the place after a step, however it is reckoned
pub step_to : {o : Answer Next × ℕ} {x : Answer Next} {i j : ℕ} → o ≡ (x, i) → j ≡ i → (x, j) ≡ o
step_to e q = rw q (sym e)

pub step_refused : (t : Table) (s : List ℕ) (at n : ℕ) (p : Place) → refused n p ≡ num_rows_answer t s → (refused n p, at) ≡ next_outcome t s at
step_refused t s at n p e = rw (← e)

-- ---- what a read by place says of a step

-- the rows of a table are never refused with 15
sound-19 : (c : ℕ) (t : ColumnType) (x : Column) (n : ℕ) (p : Place) → on_given (sound_type c t) (λ u. gives x) ≡ refused n p → n ≡ 19
sound-19 c Int16 x n p e = cc
sound-19 c Int32 x n p e = cc
sound-19 c (Str max) x n p e = go (ltb 255 max) e
  where
    go : (b : Bool) → on_given (when b then refused 19 (column c) else gives (Str max)) (λ u. gives x) ≡ refused n p → n ≡ 19
    go true f = cc
    go false f = cc
sound-19 c Binary x n p e = cc

each-19 : (c : ℕ) (xs : List Column) (n : ℕ) (p : Place) → each_at sound_column c xs ≡ refused n p → n ≡ 19
each-19 c [] n p e = cc
each-19 c (x ∷ xs) n p e = go (sound_column c x) refl (each_at sound_column (suc c) xs) (λ f. each-19 (suc c) xs n p f) e
  where
    go : (a : Answer Column) → sound_column c x ≡ a → (b : Answer (List Column)) → (b ≡ refused n p → n ≡ 19) → on_given a (λ y. on_given b (λ ys. gives (y ∷ ys))) ≡ refused n p → n ≡ 19
    go (refused m k) q b r f = sound-19 c x.coltype x n p (q ∙ same_refusal f)
    go (gives y) q (refused m k) r f = r (same_refusal f)
    go (gives y) q (gives ys) r f = cc

abbrev rows_of : Table → List ℕ → ℕ
rows_of t s = rows_in (types_of t) t.long_string_refs (length s)

never_15 : (t : Table) (s : List ℕ) (n : ℕ) (p : Place) → num_rows_answer t s ≡ refused n p → n ≡ 15 → ⊥
never_15 t s n p e h = go (ltb 268435455 (length s)) (ltb 64 t.count) (each_at sound_column 0 (columns_of t)) refl (ltb 65536 (rows_of t s)) e
  where
    go : (a b : Bool) (x : Answer (List Column)) → each_at sound_column 0 (columns_of t) ≡ x → (d : Bool)
        → (when a then refused 22 nowhere else on_given (when b then refused 20 nowhere else x) (λ ys. when d then refused 14 nowhere else gives (rows_of t s))) ≡ refused n p → ⊥
    go true b x q d f = let i : 22 ≡ n = cc in omega arith
    go false true x q d f = let i : 20 ≡ n = cc in omega arith
    go false false (refused m k) q d f = let i = each-19 0 (columns_of t) n p (q ∙ same_refusal f) in omega arith
    go false false (gives ys) q true f = let i : 14 ≡ n = cc in omega arith
    go false false (gives ys) q false f = clash (cc)

module _ (t : Table) (s : List ℕ) (at : ℕ) (p : 0 < t.count) where
  abbrev row : ℕ
  row = at / t.count

  abbrev cell_of : ℕ → ℕ × ℤ
  cell_of rows = cell_at (types_of t) t.long_string_refs rows s row (at % t.count)

  read_is : (rows : ℕ) → num_rows_answer t s ≡ gives rows → read_cell_answer t s row (at % t.count) ≡ (when ltb row rows then gives (cell_of rows) else refused 15 nowhere)
  read_is rows e = rw (e, lt-ltb (at % t.count) t.count (mod-lt at p)) (go (ltb row rows))
    where
      go : (b : Bool) → on_given (when b && true then gives tt else refused 15 nowhere) (λ (x : Unit {0}). gives (cell_of rows)) ≡ (when b then gives (cell_of rows) else refused 15 nowhere)
      go true = refl
      go false = refl

  pub read_some : (v : ℕ × ℤ) → gives v ≡ read_cell_answer t s row (at % t.count) → next_outcome t s at ≡ (gives (another v), at + 1)
  read_some v e = go (num_rows_answer t s) refl
    where
      here : (rows : ℕ) → num_rows_answer t s ≡ gives rows → (b : Bool) → ltb row rows ≡ b → gives v ≡ (when b then gives (cell_of rows) else refused 15 nowhere) → next_outcome t s at ≡ (gives (another v), at + 1)
      here rows q true h f =
          let same : cell_of rows ≡ v = cc in
          let i = step_cell t s at rows q p (ltb-true row rows h) in
          step_some t s at rows q v i.0 (i.1 ∙ same)
      here rows q false h f = clash (cc)

      go : (a : Answer ℕ) → num_rows_answer t s ≡ a → next_outcome t s at ≡ (gives (another v), at + 1)
      go (gives rows) q = here rows q (ltb row rows) refl (e ∙ read_is rows q)
      go (refused n k) q = let f : gives v ≡ refused n k = rw q at e in clash (cc)

  -- a place outside the table is past its last cell
  pub read_past : (k : Place) → refused 15 k ≡ read_cell_answer t s row (at % t.count) → next_outcome t s at ≡ (gives none, at)
  read_past k e = go (num_rows_answer t s) refl
    where
      past : (rows : ℕ) → num_rows_answer t s ≡ gives rows → (b : Bool) → ltb row rows ≡ b → refused 15 k ≡ (when b then gives (cell_of rows) else refused 15 nowhere) → next_outcome t s at ≡ (gives none, at)
      past rows q true h f = clash (cc)
      past rows q false h f = step_end t s at rows q (step_past t s at rows q p (ltb-false row rows h))

      go : (a : Answer ℕ) → num_rows_answer t s ≡ a → next_outcome t s at ≡ (gives none, at)
      go (gives rows) q = past rows q (ltb row rows) refl (e ∙ read_is rows q)
      go (refused m j) q =
          let f : refused 15 k ≡ refused m j = rw q at e in
          absurd (never_15 t s m j q (sym (cc)))

-- ---- the same cells as a bulk read

grid_pair : {A : Type 0} (g : ℕ → ℕ → ℕ × ℤ) (f : ℕ × ℤ → A) (d : A) (rows columns i : ℕ) (l : List A) → i < rows * columns
    → get_or (row_by_row (λ (r c : ℕ). f (g r c)) rows columns over l) i d ≡ f (get_or (row_by_row g rows columns) i (0, pos 0))
grid_pair g f d rows columns i l h =
    ⊎_elim
    (λ (p : 0 < columns).
    let e : i ≡ i % columns + i / columns * columns = omega (arith, div-add-mod' i columns) in
    let q : i / columns < rows = (div-lt_iff_lt-mul p).1 h in
    let x = row_by_row (λ (r c : ℕ). f (g r c)) rows columns in
    let n = length-grid (λ (r c : ℕ). f (g r c)) d columns rows in
    get_or-append x (drop (length x) l) d i (omega arith)
    ∙ ap (λ (j : ℕ). get_or x j d) e
    ∙ grid_at (λ (r c : ℕ). f (g r c)) d columns rows (i / columns) (i % columns) q (mod-lt i p)
    ∙ ap f (sym (ap (λ (j : ℕ). get_or (row_by_row g rows columns) j (0, pos 0)) e ∙ grid_at g (0, pos 0) columns rows (i / columns) (i % columns) q (mod-lt i p))))
    (λ (p : columns ≤ 0).
    let z : columns ≡ 0 = omega arith in
    let y : rows * columns ≡ 0 = rw (z, mul-zero) in
    absurd (omega arith))
    (lt_or_le 0 columns)

pub same_cells : SameCells
same_cells t s rows kinds numbers i e k n =
    let g = cell_at (types_of t) t.long_string_refs rows s in
    let read : (read_rows_outcome t s kinds numbers).1 ≡ (row_by_row (λ (r c : ℕ). (g r c).0) rows t.count over kinds, row_by_row (λ (r c : ℕ). (g r c).1) rows t.count over numbers) =
    rw (e, le-ltb (length kinds) (rows * t.count) k, le-ltb (length numbers) (rows * t.count) n) in (
      λ h. step_some t s i rows e _ h
          (sym (rw (read, grid_pair g (λ (x : ℕ × ℤ). x.0) 0 rows t.count i kinds h, grid_pair g (λ (x : ℕ × ℤ). x.1) (pos 0) rows t.count i numbers h))),
      λ h. step_end t s i rows e h,
    )

-- Stores at every step-th place, and a table that is filled column by column.
use mathlib.Core.Path.{◌≡◌, refl, sym, ◌∙◌, ap}
use mathlib.Core.Logic.{⊎_elim}
use mathlib.Core.List.{List, [], ◌∷◌, ◌++◌, map, append_assoc}
use Prim.Native.Nat.{ℕ, zero, suc, ◌+◌, ◌-◌, ◌*◌, ◌/◌, ◌%◌, ◌<◌, ◌≤◌}
use native.Mathlib.Nat.{add-mul, sub-zero, suc-mul, zero-mul, mul-zero, add-zero, zero-add, mul-le-mul_right, not-suc-le-zero, le_of_suc-le-suc, div-add-mod', mod-lt, div-lt_iff_lt-mul}
use native.Mathlib.Omega.{arith}
use borrow.Rule.Slice.PartMut.{put_mid}
use lib.ListN.{length, get_or, set, length-set, length-map, length-append, get_or-append}
use lib.Seq.{get_or-set_same, get_or-set_other, get_or-append-add, ext_get_or}
use Rattle.common.specs.Lists.{◌over◌, over_at, from}
use Rattle.common.proofs.Parts.{filled_part}
use Rattle.common.proofs.Writing.{Writing, begin, rooms, steps_front, done_front}
use Rattle.cell.proofs.Halves.{lt_or_le}
use Rattle.table.specs.Rows.{row_by_row}
use Rattle.column_cells.specs.Strides.{strided}
use Rattle.table.specs.inner.Columns.{rows_from}
use Rattle.common.proofs.Lists.{from-done, length_from, map-from}
use Rattle.column_cells.proofs.Strides.{next_le}

-- ---- n of them from k on

module _ {A : Type 0} (g : ℕ → A) (d : A) where
  pub length-of : (k n : ℕ) → length (map g (from k n)) ≡ n
  length-of k n = length-map (from k n) g ∙ length_from k n

-- ---- row by row

module _ {A : Type 0} (g : ℕ → ℕ → A) (d : A) (columns : ℕ) where
  pub length-rows : (k n : ℕ) → length (rows_from g columns k n) ≡ n * columns
  length-rows k zero = sym (zero-mul columns)
  length-rows k (suc n) = rw (length-append, length-of (g k) d 0 columns, length-rows (suc k) n) (omega (arith, suc-mul n columns))

  rows_at : (k n r c : ℕ) → r < n → c < columns → get_or (rows_from g columns k n) (c + r * columns) d ≡ g (k + r) c
  rows_at k zero r c h p = absurd (not-suc-le-zero h)
  rows_at k (suc n) zero c h p =
      let e : c + 0 * columns ≡ c = omega (arith, zero-mul columns) in
      let z : 0 + c ≡ c = omega arith in
      let l = length-of (g k) d 0 columns in
      rw (e, add-zero, get_or-append (map (g k) (from 0 columns)) (rows_from g columns (suc k) n) d c (omega arith), map-from (g k) 0 columns c d p, z)
  rows_at k (suc n) (suc r) c h p =
      let l = length-of (g k) d 0 columns in
      let e : c + suc r * columns ≡ length (map (g k) (from 0 columns)) + (c + r * columns) = omega (arith, suc-mul r columns) in
      let z : k + suc r ≡ suc k + r = omega arith in
      ap (λ (i : ℕ). get_or (map (g k) (from 0 columns) ++ rows_from g columns (suc k) n) i d) e
      ∙ get_or-append-add (map (g k) (from 0 columns)) (rows_from g columns (suc k) n) (c + r * columns) d
      ∙ rw z (rows_at (suc k) n r c (le_of_suc-le-suc h) p)

  pub length-grid : (rows : ℕ) → length (row_by_row g rows columns) ≡ rows * columns
  length-grid rows = length-rows 0 rows

  pub grid_at : (rows r c : ℕ) → r < rows → c < columns → get_or (row_by_row g rows columns) (c + r * columns) d ≡ g r c
  grid_at rows r c h p = rows_at 0 rows r c h p ∙ ap (λ (x : ℕ). g x c) (zero-add r)

-- rows after others, and rows counted from the first of them
module _ {A : Type 0} (g : ℕ → ℕ → A) (columns : ℕ) where
  pub rows_split : (k m n : ℕ) → rows_from g columns k (m + n) ≡ rows_from g columns k m ++ rows_from g columns (k + m) n
  rows_split k zero n = rw (zero-add n, add-zero k)
  rows_split k (suc m) n =
      let e : suc m + n ≡ suc (m + n) = omega arith in
      let f : k + suc m ≡ suc k + m = omega arith in
      rw (e, f, rows_split (suc k) m n, append_assoc)

  pub rows_shift : (k j n : ℕ) → rows_from (λ r. g (k + r)) columns j n ≡ rows_from g columns (k + j) n
  rows_shift k j zero = refl
  rows_shift k j (suc n) =
      let e : k + suc j ≡ suc (k + j) = omega arith in
      rw (rows_shift k (suc j) n, e)

-- ---- stores at i, i + step, i + 2 * step, ..

module _ {A : Type 0} where
  pub length-strided : (i step : ℕ) (vs l : List A) → length (strided i step vs l) ≡ length l
  length-strided i step [] l = refl
  length-strided i step (v ∷ vs) l = length-strided (i + step) step vs (set l i v) ∙ length-set l i v

  -- any other place keeps its element
  pub strided-other : (i step : ℕ) (vs l : List A) (j : ℕ) (d : A) → ((r : ℕ) → j ≡ i + r * step → ⊥) → get_or (strided i step vs l) j d ≡ get_or l j d
  strided-other i step [] l j d h = refl
  strided-other i step (v ∷ vs) l j d h =
      strided-other (i + step) step vs (set l i v) j d (λ r e. h (suc r) (omega (arith, suc-mul r step)))
      ∙ get_or-set_other l i j v d (λ e. h 0 (omega (arith, zero-mul step)))

  -- the r-th stands at i + r * step
  pub strided-at : (i step : ℕ) (vs l : List A) (r : ℕ) (d : A) → 0 < step → r < length vs → i + r * step < length l
      → get_or (strided i step vs l) (i + r * step) d ≡ get_or vs r d
  strided-at i step [] l r d p h k = absurd (not-suc-le-zero h)
  strided-at i step (v ∷ vs) l zero d p h k =
      let e : i + 0 * step ≡ i = omega (arith, zero-mul step) in
      rw e (strided-other (i + step) step vs (set l i v) i d (λ r q. omega arith) ∙ get_or-set_same l i v d (omega arith))
  strided-at i step (v ∷ vs) l (suc r) d p h k =
      let e : i + suc r * step ≡ i + step + r * step = omega (arith, suc-mul r step) in
      rw e (strided-at (i + step) step vs (set l i v) r d p (le_of_suc-le-suc h) (rw length-set (omega arith)))

-- ---- a table of rows, whose columns before c are right

pub record Filled {A : Type 0} (d : A) (g : ℕ → ℕ → A) (rows step c : ℕ) (l : List A) : Type 0 where
  pub sized : length l ≡ rows * step
  pub right : (r k : ℕ) → r < rows → k < c → get_or l (k + r * step) d ≡ g r k

-- two columns share no place
apart : (c k r q step : ℕ) → c < step → k < c → k + r * step ≡ c + q * step → ⊥
apart c k r q step h p e =
    ⊎_elim (λ (a : r < q). omega (arith, next_le r q step a))
    (λ (a : q ≤ r). ⊎_elim (λ (b : q < r). omega (arith, next_le q r step b))
    (λ (b : r ≤ q). omega (arith, mul-le-mul_right step a, mul-le-mul_right step b)) (lt_or_le q r))
    (lt_or_le r q)

module _ {A : Type 0} (d : A) (g : ℕ → ℕ → A) (rows step : ℕ) where
  -- one column more, whose cells are those of g
  pub filled_turn : (c : ℕ) (f : ℕ → A) (l : List A) → c < step → ((r : ℕ) → f r ≡ g r c)
      → Filled d g rows step c l → Filled d g rows step (c + 1) (strided c step (map f (from 0 rows)) l)
  filled_turn c f l h v i =
      let vs = map f (from 0 rows) in
      let n = length-of f d 0 rows in
      record {
        sized = length-strided c step vs l ∙ i.sized;
        right = λ r k p q. ⊎_elim
            (λ (a : k < c). strided-other c step vs l (k + r * step) d (λ x e. apart c k r x step h a e) ∙ i.right r k p a)
            (λ (a : c ≤ k).
            let e : k ≡ c = omega arith in
            let s = i.sized in
            let z : 0 + r ≡ r = omega arith in
            rw e (strided-at c step vs l r d (omega arith) (omega arith) (omega (arith, next_le r rows step p)) ∙ map-from f 0 rows r d p ∙ rw z (v r)))
            (lt_or_le k c);
      }

  -- all columns: the list is that of the rows
  pub filled_done : (c : ℕ) (l : List A) → step ≤ c → Filled d g rows step c l → l ≡ row_by_row g rows step
  filled_done c l full f =
      ext_get_or d l (row_by_row g rows step) (f.sized ∙ sym (length-grid g d step rows))
      (λ i h.
      let s = f.sized in
      ⊎_elim
      (λ (p : 0 < step).
      let e : i ≡ i % step + i / step * step = omega (arith, div-add-mod' i step) in
      let q : i / step < rows = (div-lt_iff_lt-mul p).1 (omega arith) in
      let m = mod-lt i p in
      ap (λ (x : ℕ). get_or l x d) e
      ∙ f.right (i / step) (i % step) q (omega arith)
      ∙ sym (grid_at g d step rows (i / step) (i % step) q m)
      ∙ ap (λ (x : ℕ). get_or (row_by_row g rows step) x d) (sym e))
      (λ (p : step ≤ 0).
      let z : step ≡ 0 = omega arith in
      let y : rows * step ≡ 0 = rw (z, mul-zero) in
      absurd (omega arith))
      (lt_or_le 0 step))

-- grids that agree at every place
pub grid_same : {A : Type 0} (g h : ℕ → ℕ → A) (d : A) (rows columns : ℕ) → ((r c : ℕ) → r < rows → c < columns → g r c ≡ h r c) → row_by_row g rows columns ≡ row_by_row h rows columns
grid_same g h d rows columns e =
    filled_done d h rows columns columns (row_by_row g rows columns) (omega arith)
    (record { sized = length-grid g d columns rows; right = λ r k p q. grid_at g d columns rows r k p q ∙ e r k p q })

-- ---- bands of rows, written one after the other: those before `first` are written over a room, the others are left

module _ {A : Type 0} (g : ℕ → ℕ → A) (d : A) (columns rows : ℕ) where
  abbrev pub Banded : List A → ℕ → List A → Type 0
  Banded before first out = Writing before 0 (row_by_row g rows columns) (rows_from g columns first (rows - first)) out (first * columns)

  pub band_begin : (before : List A) → rows * columns ≤ length before → Banded before 0 before
  band_begin before h =
      let l = length-grid g d columns rows in
      rw (sub-zero, zero-mul) (begin (omega arith))

  pub band_done : (before : List A) (first : ℕ) (out : List A) → rows ≤ first → Banded before first out → out ≡ row_by_row g rows columns over before
  band_done before first out h w = done_front w (rw (from-done first rows h))

  pub band_turn : (before out last : List A) (first some after k : ℕ) → first + some ≤ rows → after ≡ first + some → k ≡ some * columns → last ≡ rows_from g columns first some
      → Banded before first out → Banded before after (put_mid (first * columns) k out last)
  band_turn before out last first some after k h a e f w =
      let x = rows_from g columns first some in
      let more = rows_from g columns (first + some) (rows - (first + some)) in
      let left : rows - first ≡ some + (rows - (first + some)) = omega arith in
      let next : rows_from g columns first (rows - first) ≡ x ++ more = rw left (rows_split g columns first some (rows - (first + some))) in
      let long : length x ≡ some * columns = length-rows g d columns first some in
      let put : put_mid (first * columns) k out last ≡ over_at (first * columns) x out = filled_part x out last (first * columns) k f (omega arith) (omega (arith, rooms w x more next)) in
      let end : (first + some) * columns ≡ first * columns + length x = omega (arith, add-mul first some columns) in
      rw (a, put, end) (steps_front w x more next)

-- the cells of a band are among those of all
pub band_within : (first some rows columns : ℕ) → first + some ≤ rows → first * columns + some * columns ≤ rows * columns
band_within first some rows columns h = omega (arith, add-mul first some columns, mul-le-mul_right columns h)

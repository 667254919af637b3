-- The steps of a reader one after another: its cells, then none; or the refusal again and again.
use mathlib.Core.Path.{◌≡◌, refl, sym, ◌∙◌, ap}
use mathlib.Core.List.{List, [], ◌∷◌, ◌++◌, map}
use mathlib.Core.Logic.{⊎_elim}
use Prim.Native.Nat.{ℕ, zero, suc, ◌+◌, ◌<◌, ◌≤◌}
use native.Mathlib.Nat.{add-zero}
use native.Mathlib.Numerals.{add-one}
use native.Mathlib.Omega.{arith}
use lib.IntN.{ℤ, pos}
use lib.ListN.{length, take, drop, get_or, replicate, drop_of_length-le}
use lib.Seq.{take-nil, drop-cons}
use Rattle.common.specs.Answers.{Answer, gives, refused}
use Rattle.cell.proofs.Halves.{lt_or_le}
use Rattle.table.specs.declared.layout.Table.{Table}
use Rattle.table.specs.Reading.{num_rows_answer}
use Rattle.rows.specs.Next.{Next, another, none, cells_of, next_outcome, walk}
use Rattle.rows.specs.Promises.{CellAfterCell, RefusedEachTime}
use Rattle.rows.proofs.Steps.{cells_length, step_some, step_end, step_refused}

-- the first step, then the others from the place that it left
walk_step : (t : Table) (s : List ℕ) (at k j : ℕ) (a : Answer Next) → next_outcome t s at ≡ (a, j) → walk t s at (suc k) ≡ (a ∷ (walk t s j k).0, (walk t s j k).1)
walk_step t s at k j a e = ap (λ (x : Answer Next × ℕ). (x.0 ∷ (walk t s x.1 k).0, (walk t s x.1 k).1)) e

module _ (t : Table) (s : List ℕ) (rows : ℕ) (e : num_rows_answer t s ≡ gives rows) where
  abbrev cells : List (ℕ × ℤ)
  cells = cells_of t s rows

  -- k steps from a place on: the cells from there on, and none after them, as often as is asked
  abbrev Steps : ℕ → ℕ → ℕ → Type 0
  Steps k m at = walk t s at k ≡ (take k (map (λ x. gives (another x)) (drop at cells) ++ replicate m (gives none)), at + length (take k (drop at cells)))

  inside : (k m at : ℕ) → at < length cells → Steps k m (at + 1) → Steps (suc k) m at
  inside k m at p others =
      let l = cells_length t s at rows e in
      let d : drop at cells ≡ get_or cells at (0, pos 0) ∷ drop (at + 1) cells = rw add-one (drop-cons cells at (0, pos 0) p) in
      let n = length (take k (drop (at + 1) cells)) in
      let i : at + 1 + n ≡ at + suc n = omega arith in
      walk_step t s at k (at + 1) (gives (another (get_or cells at (0, pos 0)))) (step_some t s at rows e (get_or cells at (0, pos 0)) (omega arith) refl) ∙ rw (others, d, i)

  past : (k m at : ℕ) → length cells ≤ at → Steps k m at → Steps (suc k) (suc m) at
  past k m at p others =
      let l = cells_length t s at rows e in
      let d : drop at cells ≡ [] = drop_of_length-le cells p in
      walk_step t s at k at (gives none) (step_end t s at rows e (omega arith)) ∙ rw (others, d, take-nil {A = ℕ × ℤ} k)

  from_place : (k m at : ℕ) → k ≤ m → Steps k m at
  from_place zero m at h = rw add-zero
  from_place (suc k) zero at h = absurd (omega arith)
  from_place (suc k) (suc m) at h =
      ⊎_elim (λ p. inside k (suc m) at p (from_place k (suc m) (at + 1) (omega arith))) (λ p. past k m at p (from_place k m at (omega arith))) (lt_or_le at (length cells))

pub cell-after_cell : CellAfterCell
cell-after_cell t s rows k e =
    let n = length (take k (cells_of t s rows)) in
    let i : 0 + n ≡ n = omega arith in
    rw i at (from_place t s rows e k k 0 (omega arith))

pub refused-each_time : RefusedEachTime
refused-each_time t s zero n at e = refl
refused-each_time t s (suc k) n at e = walk_step t s 0 k 0 (refused n at) (sym (step_refused t s 0 n at (sym e))) ∙ rw (refused-each_time t s k n at e)

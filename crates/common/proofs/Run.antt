-- A loop that writes one element a turn over a stretch of a list: upwards, or downwards where a stretch moves up within its own list.
-- `Run d at s n t j`: of n elements of s that go over d from the place `at` on, j are written, and that is t.
--     run-start    nothing is written yet
--     run-turn     a store of the next element
--     run_end      all are written
-- `RunDown d to from n t j`: of n elements of d that move from `from` up to `to`, all but the first j are moved, and that is t.
use mathlib.Core.Path.{◌≡◌, refl, sym, ap, ap₂, ◌∙◌}
use Prim.Native.Nat.{ℕ, suc, ◌+◌, ◌-◌, ◌≤◌, ◌<◌}
use native.Mathlib.Nat.{add-suc, add-zero, sub-zero}
use native.Mathlib.Numerals.{add-one}
use native.Mathlib.Omega.{arith}
use mathlib.Core.List.{List, [], ◌∷◌, ◌++◌, append_assoc}
use lib.ListN.{length, take, drop, get_or, set, length-set, length-drop, get_or-append, length-append}
use lib.Seq.{paste, paste-zero, paste-suc, length_paste_head, get_or-append-add, get_or-drop, get_or-take, take-suc, drop-cons, set_at, length-take-le}

pub record Run {A : Type 0} (d : List A) (at : ℕ) (s : List A) (n : ℕ) (t : List A) (j : ℕ) : Type 0 where
  pub within : j ≤ n
  pub long : length t ≡ length d
  pub stands : t ≡ paste d at s j

module _ {A : Type 0} where
  pub run-start : (d : List A) (at : ℕ) (s : List A) (n : ℕ) → Run d at s n d 0
  run-start d at s n = record { within = omega arith; long = refl; stands = paste-zero d at s }

  pub run-turn : {d : List A} {at : ℕ} {s : List A} {n : ℕ} {t : List A} {j : ℕ} (x z : A) → at + n ≤ length d → n ≤ length s
      → Run d at s n t j → j < n → x ≡ get_or s j z → Run d at s n (set t (at + j) x) (j + 1)
  run-turn {d} {at} {s} {n} {t} {j} x z hd hs r h v = record {
    within = omega arith;
    long = length-set t (at + j) x ∙ r.long;
    stands =
        ap₂ (λ (l : List A) (y : A). set l (at + j) y) r.stands v
        ∙ paste-suc d at s j z (omega arith) (omega arith) ∙ ap (paste d at s) (sym (add-one j));
  }

  pub run_end : {d : List A} {at : ℕ} {s : List A} {n : ℕ} {t : List A} {j : ℕ} → Run d at s n t j → n ≤ j → t ≡ paste d at s n
  run_end {d} {at} {s} {n} {t} {j} r h =
      let e : j ≡ n = omega arith in
      r.stands ∙ ap (paste d at s) e

  -- what lies past the run, and what lies before it, is as it was
  pub get_or-past_paste : (d : List A) (at : ℕ) (s : List A) (n k : ℕ) (z : A) → at ≤ length d → n ≤ length s → at + n ≤ k
      → get_or (paste d at s n) k z ≡ get_or d k z
  get_or-past_paste d at s n k z hd hs h =
      let head : List A = take at d ++ take n s in
      let hl : length head ≡ at + n = length_paste_head d at s n hd hs in
      let e : k ≡ length head + (k - (at + n)) = omega arith in
      let e' : at + n + (k - (at + n)) ≡ k = omega arith in
      ap (λ (i : ℕ). get_or (head ++ drop (at + n) d) i z) e
      ∙ get_or-append-add head (drop (at + n) d) (k - (at + n)) z
      ∙ get_or-drop (at + n) d (k - (at + n)) z
      ∙ ap (λ (i : ℕ). get_or d i z) e'

  pub get_or-before_paste : (d : List A) (at : ℕ) (s : List A) (n k : ℕ) (z : A) → at ≤ length d → k < at
      → get_or (paste d at s n) k z ≡ get_or d k z
  get_or-before_paste d at s n k z hd h =
      let hl : k < length (take at d) = simp length-take-le (omega arith) in
      let hl' : k < length (take at d ++ take n s) = simp length-append (omega arith) in
      get_or-append (take at d ++ take n s) (drop (at + n) d) z k hl'
      ∙ get_or-append (take at d) (take n s) z k hl
      ∙ get_or-take at d k z h

  -- in a run that moves down, the element that is read next was not written yet
  pub move_reads : {d : List A} {to from n : ℕ} {t : List A} {j : ℕ} (z : A) → to ≤ from → from + n ≤ length d → Run d to (drop from d) n t j → j < n
      → get_or t (from + j) z ≡ get_or (drop from d) j z
  move_reads {d} {to} {from} {n} {t} {j} z h room r more =
      ap (λ (l : List A). get_or l (from + j) z) r.stands
      ∙ get_or-past_paste d to (drop from d) j (from + j) z (omega arith) (simp length-drop (omega arith)) (omega arith)
      ∙ sym (get_or-drop from d j z)

  -- a store at the seam of three
  set-mid : (P : List A) (y x : A) (M R : List A) (n : ℕ) → length P ≡ n → set (P ++ (y ∷ []) ++ M ++ R) n x ≡ P ++ (x ∷ M) ++ R
  set-mid P y x M R n e =
      let g : P ++ (y ∷ []) ++ M ++ R ≡ P ++ (y ∷ (M ++ R)) = simp append_assoc in
      let h : P ++ (x ∷ (M ++ R)) ≡ P ++ (x ∷ M) ++ R = simp append_assoc in
      ap (λ (l : List A). set l n x) g ∙ set_at P y (M ++ R) x n e ∙ h

  -- a turn downwards: the element before those moved is stored
  paste_down : (d : List A) (to from size k : ℕ) (z : A) → from ≤ to → to + size ≤ length d → k < size
      → set (paste d (to + suc k) (drop (from + suc k) d) (size - suc k)) (to + k) (get_or d (from + k) z)
      ≡ paste d (to + k) (drop (from + k) d) (size - k)
  paste_down d to from size k z h room hk =
      let P : List A = take (to + k) d in
      let M : List A = take (size - suc k) (drop (from + suc k) d) in
      let R : List A = drop (to + suc k + (size - suc k)) d in
      let hto : to + k < length d = omega arith in
      let hfrom : from + k < length d = omega arith in
      let e₁ : take (to + suc k) d ≡ P ++ (get_or d (to + k) z ∷ []) = rw (add-suc) (take-suc d (to + k) z hto) in
      let e₂ : size - k ≡ suc (size - suc k) = omega arith in
      let e₃ : drop (from + k) d ≡ get_or d (from + k) z ∷ drop (from + suc k) d = rw (add-suc) (drop-cons d (from + k) z hfrom) in
      let e₄ : to + suc k + (size - suc k) ≡ to + k + (size - k) = omega arith in
      ap (λ (l : List A). set (l ++ M ++ R) (to + k) (get_or d (from + k) z)) e₁
      ∙ set-mid P (get_or d (to + k) z) (get_or d (from + k) z) M R (to + k) (length-take-le (to + k) d (omega arith))
      ∙ ap (λ (l : List A). P ++ l ++ R) (sym (ap₂ take e₂ e₃))
      ∙ ap (λ (i : ℕ). P ++ take (size - k) (drop (from + k) d) ++ drop i d) e₄

pub record RunDown {A : Type 0} (d : List A) (to from n : ℕ) (t : List A) (j : ℕ) : Type 0 where
  pub within : j ≤ n
  pub long : length t ≡ length d
  pub stands : t ≡ paste d (to + j) (drop (from + j) d) (n - j)

module _ {A : Type 0} where
  pub down_start : (d : List A) (to from n : ℕ) → RunDown d to from n d n
  down_start d to from n =
      let e : n - n ≡ 0 = omega arith in
      record { within = omega arith; long = refl; stands = paste-zero d (to + n) (drop (from + n) d) ∙ ap (paste d (to + n) (drop (from + n) d)) (sym e) }

  pub down_turn : {d : List A} {to from n : ℕ} {t : List A} {j : ℕ} (z : A) → from ≤ to → to + n ≤ length d → RunDown d to from n t j → 0 < j
      → RunDown d to from n (set t (to + (j - 1)) (get_or t (from + (j - 1)) z)) (j - 1)
  down_turn {d} {to} {from} {n} {t} {j} z h room r pos' =
      let k : ℕ = j - 1 in
      let e : j ≡ suc k = omega arith in
      let b : t ≡ paste d (to + suc k) (drop (from + suc k) d) (n - suc k) =
      r.stands ∙ ap (λ (i : ℕ). paste d (to + i) (drop (from + i) d) (n - i)) e in
      let v : get_or t (from + k) z ≡ get_or d (from + k) z =
      ap (λ (l : List A). get_or l (from + k) z) b ∙ get_or-before_paste d (to + suc k) (drop (from + suc k) d) (n - suc k) (from + k) z (omega arith) (omega arith) in
      record {
        within = omega arith;
        long = length-set t (to + k) (get_or t (from + k) z) ∙ r.long;
        stands = ap₂ (λ (l : List A) (y : A). set l (to + k) y) b v ∙ paste_down d to from n k z h room (omega arith);
      }

  pub down_end : {d : List A} {to from n : ℕ} {t : List A} {j : ℕ} → RunDown d to from n t j → j ≤ 0 → t ≡ paste d to (drop from d) n
  down_end {d} {to} {from} {n} {t} {j} r h =
      let e : j ≡ 0 = omega arith in
      r.stands ∙ ap (λ (i : ℕ). paste d (to + i) (drop (from + i) d) (n - i)) e
      ∙ simp (add-zero, sub-zero)

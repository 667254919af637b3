-- Laws of the place that a take chooses; both ways of choosing are legal.
use Rattle.std.proofs.Common.{◌≡◌, ℕ, zero, suc, ◌+◌, ◌<◌, ◌≤◌, Bool, true, false, not, ◌&&◌, ◌||◌, ltb, List, [], ◌∷◌, length, get_or, refl, ap, ◌∙◌, ap₂, le_of_suc-le-suc, not-suc-le-zero, add-one, arith}
use Rattle.common.specs.Choice.{when◌then◌else◌}
use Rattle.common.proofs.Bools.{clash}
use Rattle.pool_entries.specs.Entries.{Entry, entry, free}
use Rattle.pool_entries.specs.Choose.{equal, first_place, first_free_or_equal, can_count_up_lem, equal_then_free_lem, Legal}

-- the first place is one of the list or the place after the last, and what stands there passes
abbrev pub First : (Entry → Bool) → List Entry → ℕ → Type 0
First f es k = (k ≤ length es) × (k < length es → f (get_or es k (entry [] 0)) ≡ true)

first_next : (f : Entry → Bool) (e : Entry) (es : List Entry) (k : ℕ) → First f es k → First f (e ∷ es) (k + 1)
first_next f e es k h = rw (add-one k) (omega (arith, h.0), λ q. h.1 (le_of_suc-le-suc q))

pub first-place : (f : Entry → Bool) (es : List Entry) → First f es (first_place f es)
first-place f [] = (omega arith, λ q. absurd (not-suc-le-zero q))
first-place f (e ∷ es) = go (f e) refl (first-place f es)
  where
    go : (b : Bool) → f e ≡ b → First f es (first_place f es) → First f (e ∷ es) (when b then 0 else first_place f es + 1)
    go true g h = (omega arith, λ q. g)
    go false g h = first_next f e es (first_place f es) h

-- a place before which none passes, and at which one does or the list ends, is the first
pub place_found : (f : Entry → Bool) (es : List Entry) (k : ℕ) → k ≤ length es
    → ((j : ℕ) → j < k → f (get_or es j (entry [] 0)) ≡ false) → (k < length es → f (get_or es k (entry [] 0)) ≡ true) → first_place f es ≡ k
place_found f [] k g b c = omega arith
place_found f (e ∷ es) zero g b c = ap (λ (x : Bool). when x then 0 else first_place f es + 1) (c (omega arith))
place_found f (e ∷ es) (suc k) g b c =
    ap₂ (λ (x : Bool) (m : ℕ). when x then 0 else m + 1) (b 0 (omega arith))
    (place_found f es k (le_of_suc-le-suc g) (λ j q. b (suc j) (omega arith)) (λ q. c (omega arith)))
    ∙ add-one k

-- ---- the two choices

-- an entry that can count up is not free, and equal
pub counts_up : (a b : Bool) → (not a && b) ≡ true → (a ≡ false) × (b ≡ true)
counts_up true b q = clash (cc)
counts_up false b q = (refl, q)

pub one_passes : (a b : Bool) → (not a && b) ≡ true → (a || b) ≡ true
one_passes true b q = refl
one_passes false b q = q

pub first-free-or-equal : Legal first_free_or_equal
first-free-or-equal t es = first-place (λ (e : Entry). free e || equal t e) es

pub equal-then_free : Legal equal_then_free_lem
equal-then_free t es = go (ltb (first_place (can_count_up_lem t) es) (length es)) (first-place (can_count_up_lem t) es) (first-place free es)
  where
    Suits : ℕ → Type 0
    Suits k = First (λ (e : Entry). free e || equal t e) es k

    is_free : (a b : Bool) → a ≡ true → (a || b) ≡ true
    is_free true b q = refl
    is_free false b q = clash (cc)

    go : (b : Bool) → First (can_count_up_lem t) es (first_place (can_count_up_lem t) es) → First free es (first_place free es)
        → Suits (when b then first_place (can_count_up_lem t) es else first_place free es)
    go true g h = let e : Entry = get_or es (first_place (can_count_up_lem t) es) (entry [] 0) in (g.0, λ q. one_passes (free e) (equal t e) (g.1 q))
    go false g h = let e : Entry = get_or es (first_place free es) (entry [] 0) in (h.0, λ q. is_free (free e) (equal t e) (h.1 q))

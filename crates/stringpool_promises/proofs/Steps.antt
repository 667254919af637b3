-- One take or one drop, on a list of entries alone: what it does to the counts of a text, and to the entry at a place.
use mathlib.Core.Path.{◌≡◌, refl, sym, ap, ap₂, subst, ◌∙◌}
use Prim.Native.Nat.{ℕ, ◌+◌, ◌-◌, ◌≤◌, ◌<◌}
use native.Mathlib.Nat.{add-zero}
use native.Mathlib.Omega.{arith}
use mathlib.Core.Bool.{Bool, true, false, ◌&&◌, ◌||◌}
use mathlib.Core.List.{List, [], ◌∷◌, ◌++◌}
use lib.ListN.{length, get_or, set, length-append, length-set, get_or-eq_default}
use lib.Dec.{leb, ltb, eqb}
use borrow.Author.Tests.{leb-true, leb-false, eqb-true, ltb-true, ltb-false}
use Rattle.common.specs.Choice.{when◌then◌else◌}
use Rattle.stringpool.specs.Pool.{Entry, entry, free}
use Rattle.stringpool.specs.Take.{same_bytes, equal, increased, taken_at_lem}
use Rattle.stringpool.specs.Drop.{lessened}
use Rattle.stringpool_promises.specs.Promises.{one, count_for, sum_for}
use Rattle.stringpool.specs.inner.Entries.{none}
use Rattle.stringpool_promises.proofs.Lists.{sum-set, sum-snoc}
use Rattle.common.proofs.Lists.{get_or-put, get_or-snoc}
use Rattle.pool_entries.proofs.Bytes.{same_eq}

-- ---- a take at the place k, which is legal

pub record At (u : List ℕ) (es : List Entry) (k : ℕ) : Type 0 where
  pub within : k ≤ length es
  pub suits : k < length es → (free (get_or es k none) || equal u (get_or es k none)) ≡ true

-- an entry that is there, or a new one
pub by_place : (u : List ℕ) (es : List Entry) (k : ℕ) (P : List Entry → Type 0)
    → (k < length es → P (set es k (increased u (get_or es k none)))) → (length es ≤ k → P (es ++ (entry u 1 ∷ []))) → P (taken_at_lem u k es)
by_place u es k P f g = go (ltb k (length es)) refl
  where
    go : (b : Bool) → ltb k (length es) ≡ b → P (when b then set es k (increased u (get_or es k none)) else es ++ (entry u 1 ∷ []))
    go true e = f (ltb-true k (length es) e)
    go false e = g (ltb-false k (length es) e)

equal-text : (u : List ℕ) (e : Entry) → equal u e ≡ true → e.text ≡ u
equal-text u e h = same_eq e.text u (go (same_bytes e.text u) (ltb e.count 65535) h)
  where
    go : (a b : Bool) → (a && b) ≡ true → a ≡ true
    go true b q = refl
    go false b q = q

free-counts : (t : List ℕ) (e : Entry) → e.count ≡ 0 → count_for t e ≡ 0
free-counts t e z = go (same_bytes e.text t)
  where
    go : (b : Bool) → (when b then e.count else 0) ≡ 0
    go true = z
    go false = refl

-- one more reference
increased-counts : (t u : List ℕ) (e : Entry) → (free e || equal u e) ≡ true → count_for t (increased u e) ≡ count_for t e + one (same_bytes u t)
increased-counts t u e h = go (free e) refl h
  where
    up : (b : Bool) → (when b then e.count + 1 else 0) ≡ (when b then e.count else 0) + one b
    up true = refl
    up false = refl

    go : (b : Bool) → free e ≡ b → (b || equal u e) ≡ true → count_for t (when b then entry u 1 else entry e.text (e.count + 1)) ≡ count_for t e + one (same_bytes u t)
    go true f q = omega (arith, free-counts t e (eqb-true e.count 0 f))
    go false f q = up (same_bytes e.text t) ∙ ap (λ (x : List ℕ). count_for t e + one (same_bytes x t)) (equal-text u e q)

pub take-sum : (t u : List ℕ) (es : List Entry) (k : ℕ) → At u es k → sum_for t (taken_at_lem u k es) ≡ sum_for t es + one (same_bytes u t)
take-sum t u es k a = by_place u es k (λ (x : List Entry). sum_for t x ≡ sum_for t es + one (same_bytes u t))
    (λ h. omega (arith, sum-set t es k (increased u (get_or es k none)) h, increased-counts t u (get_or es k none) (a.suits h)))
    (λ h. sum-snoc t es (entry u 1))

pub take-length : (u : List ℕ) (es : List Entry) (k m : ℕ) → length es ≤ m → (length es ≤ k → length es < m) → length (taken_at_lem u k es) ≤ m
take-length u es k m h g = by_place u es k (λ (x : List Entry). length x ≤ m)
    (λ q. omega (arith, length-set es k (increased u (get_or es k none))))
    (λ q. omega (arith, length-append es (entry u 1 ∷ []), g q))

past_end : (es : List Entry) (k : ℕ) → length es ≤ k → get_or es k none ≡ none
past_end es k h = get_or-eq_default es none h

-- the entry at j afterwards
take-entry : (u : List ℕ) (es : List Entry) (k j : ℕ) → k ≤ length es
    → get_or (taken_at_lem u k es) j none ≡ (when eqb k j then increased u (get_or es k none) else get_or es j none)
take-entry u es k j le = by_place u es k (λ (x : List Entry). get_or x j none ≡ (when eqb k j then increased u (get_or es k none) else get_or es j none))
    (λ h. get_or-put none es k j (increased u (get_or es k none)) h)
    (λ h.
    let q : length es ≡ k = omega (arith, h, le) in
    get_or-snoc none es j (entry u 1)
    ∙ ap₂ (λ (i : ℕ) (e : Entry). (when eqb i j then increased u e else get_or es j none)) q (sym (past_end es k h)))

increased-count : (u : List ℕ) (e : Entry) → (increased u e).count ≡ e.count + 1
increased-count u e = go (free e) refl
  where
    go : (b : Bool) → free e ≡ b → (when b then entry u 1 else entry e.text (e.count + 1)).count ≡ e.count + 1
    go true f = omega (arith, eqb-true e.count 0 f)
    go false f = refl

increased-text : (u : List ℕ) (e : Entry) → 1 ≤ e.count → (increased u e).text ≡ e.text
increased-text u e h = go (free e) refl
  where
    go : (b : Bool) → free e ≡ b → (when b then entry u 1 else entry e.text (e.count + 1)).text ≡ e.text
    go true f = absurd (omega (arith, h, eqb-true e.count 0 f))
    go false f = refl

pub take_count : (u : List ℕ) (es : List Entry) (k j : ℕ) → k ≤ length es → (get_or (taken_at_lem u k es) j none).count ≡ (get_or es j none).count + one (eqb k j)
take_count u es k j le = ap (λ (e : Entry). e.count) (take-entry u es k j le) ∙ go (eqb k j) refl
  where
    go : (b : Bool) → eqb k j ≡ b → (when b then increased u (get_or es k none) else get_or es j none).count ≡ (get_or es j none).count + one b
    go true f = increased-count u (get_or es k none) ∙ ap (λ (i : ℕ). (get_or es i none).count + 1) (eqb-true k j f)
    go false f = sym (add-zero (get_or es j none).count)

pub take-text : (u : List ℕ) (es : List Entry) (k j : ℕ) → k ≤ length es → 1 ≤ (get_or es j none).count → (get_or (taken_at_lem u k es) j none).text ≡ (get_or es j none).text
take-text u es k j le c = ap (λ (e : Entry). e.text) (take-entry u es k j le) ∙ go (eqb k j) refl
  where
    go : (b : Bool) → eqb k j ≡ b → (when b then increased u (get_or es k none) else get_or es j none).text ≡ (get_or es j none).text
    go true f =
        let q : k ≡ j = eqb-true k j f in
        increased-text u (get_or es k none) (subst (λ (i : ℕ). 1 ≤ (get_or es i none).count) (sym q) c) ∙ ap (λ (i : ℕ). (get_or es i none).text) q
    go false f = refl

-- ---- a drop at the place k, which is counted

lessened-counts : (t : List ℕ) (e : Entry) → 0 < e.count → count_for t (lessened e) + one (same_bytes e.text t) ≡ count_for t e
lessened-counts t e h = go (leb e.count 1) (same_bytes e.text t) refl refl
  where
    go : (b c : Bool) → leb e.count 1 ≡ b → same_bytes e.text t ≡ c
        → count_for t (when b then entry [] 0 else entry e.text (e.count - 1)) + one c ≡ (when c then e.count else 0)
    go true true f g = omega (arith, free-counts t none refl, leb-true e.count 1 f)
    go true false f g = omega (arith, free-counts t none refl)
    go false true f g = omega (arith, leb-false e.count 1 f, ap (λ (x : Bool). when x then e.count - 1 else 0) g)
    go false false f g = omega (arith, ap (λ (x : Bool). when x then e.count - 1 else 0) g)

pub drop-sum : (t : List ℕ) (es : List Entry) (k : ℕ) → k < length es → 0 < (get_or es k none).count
    → sum_for t (set es k (lessened (get_or es k none))) + one (same_bytes (get_or es k none).text t) ≡ sum_for t es
drop-sum t es k h c = omega (arith, sum-set t es k (lessened (get_or es k none)) h, lessened-counts t (get_or es k none) c)

lessened-count : (e : Entry) → 0 < e.count → (lessened e).count + 1 ≡ e.count
lessened-count e h = go (leb e.count 1) refl
  where
    go : (b : Bool) → leb e.count 1 ≡ b → (when b then entry [] 0 else entry e.text (e.count - 1)).count + 1 ≡ e.count
    go true f = omega (arith, leb-true e.count 1 f)
    go false f = omega (arith, leb-false e.count 1 f)

lessened-text : (e : Entry) → 1 ≤ (lessened e).count → (lessened e).text ≡ e.text
lessened-text e h = go (leb e.count 1) h
  where
    go : (b : Bool) → 1 ≤ (when b then entry [] 0 else entry e.text (e.count - 1)).count → (when b then entry [] 0 else entry e.text (e.count - 1)).text ≡ e.text
    go true q = absurd (omega (arith, q))
    go false q = refl

-- a drop leaves no longer text
pub lessened-length : (e : Entry) → length (lessened e).text ≤ length e.text
lessened-length e = go (leb e.count 1)
  where
    go : (b : Bool) → length (when b then entry [] 0 else entry e.text (e.count - 1)).text ≤ length e.text
    go true = omega arith
    go false = omega arith

pub drop-count : (es : List Entry) (k j : ℕ) → k < length es → 0 < (get_or es k none).count
    → (get_or (set es k (lessened (get_or es k none))) j none).count + one (eqb k j) ≡ (get_or es j none).count
drop-count es k j h c =
    ap (λ (e : Entry). e.count + one (eqb k j)) (get_or-put none es k j (lessened (get_or es k none)) h) ∙ go (eqb k j) refl
  where
    go : (b : Bool) → eqb k j ≡ b → (when b then lessened (get_or es k none) else get_or es j none).count + one b ≡ (get_or es j none).count
    go true f = lessened-count (get_or es k none) c ∙ ap (λ (i : ℕ). (get_or es i none).count) (eqb-true k j f)
    go false f = add-zero (get_or es j none).count

pub drop-text : (es : List Entry) (k j : ℕ) → k < length es → 1 ≤ (get_or (set es k (lessened (get_or es k none))) j none).count
    → (get_or (set es k (lessened (get_or es k none))) j none).text ≡ (get_or es j none).text
drop-text es k j h c =
    let e : get_or (set es k (lessened (get_or es k none))) j none ≡ (when eqb k j then lessened (get_or es k none) else get_or es j none) = get_or-put none es k j (lessened (get_or es k none)) h in
    ap (λ (x : Entry). x.text) e ∙ go (eqb k j) refl (subst (λ (x : Entry). 1 ≤ x.count) e c)
  where
    go : (b : Bool) → eqb k j ≡ b → 1 ≤ (when b then lessened (get_or es k none) else get_or es j none).count
        → (when b then lessened (get_or es k none) else get_or es j none).text ≡ (get_or es j none).text
    go true f q = lessened-text (get_or es k none) q ∙ ap (λ (i : ℕ). (get_or es i none).text) (eqb-true k j f)
    go false f q = refl

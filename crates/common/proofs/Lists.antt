-- What stands at a place of a list after an element is replaced or added, and numbers counted up.
use mathlib.Core.Path.{◌≡◌, refl, sym, ap, ◌∙◌}
use Prim.Native.Nat.{ℕ, zero, suc, ◌+◌, ◌-◌, ◌<◌, ◌≤◌}
use native.Mathlib.Nat.{not-suc-le-zero, le_of_suc-le-suc, add-zero}
use native.Mathlib.Numerals.{add-one}
use native.Mathlib.Omega.{arith}
use mathlib.Core.Bool.{Bool, true, false}
use mathlib.Core.List.{List, [], ◌∷◌, ◌++◌, map}
use lib.ListN.{length, get_or, set}
use lib.Seq.{get_or-set_same, get_or-set_other}
use borrow.Author.Tests.{eqb-true, eqb-false}
use lib.Dec.{eqb, eqb-zero-suc, eqb-suc-zero, eqb-suc-suc}
use Rattle.common.specs.Lists.{from}
use Rattle.common.specs.Choice.{when◌then◌else◌, ◌=?◌}

module _ {A : Type 0} (d : A) where
  pub get_or-put : (l : List A) (j k : ℕ) (x : A) → j < length l → get_or (set l j x) k d ≡ (when j =? k then x else get_or l k d)
  get_or-put l j k x h = go (eqb j k) refl
    where
      go : (b : Bool) → eqb j k ≡ b → get_or (set l j x) k d ≡ (when b then x else get_or l k d)
      go true f = ap (λ (i : ℕ). get_or (set l j x) i d) (sym (eqb-true j k f)) ∙ get_or-set_same l j x d h
      go false f = get_or-set_other l j k x d (λ q. eqb-false j k f (sym q))

  pub get_or-snoc : (l : List A) (k : ℕ) (x : A) → get_or (l ++ (x ∷ [])) k d ≡ (when length l =? k then x else get_or l k d)
  get_or-snoc [] zero x = refl
  get_or-snoc [] (suc k) x = rw (eqb-zero-suc k)
  get_or-snoc (y ∷ l) zero x = rw (eqb-suc-zero (length l))
  get_or-snoc (y ∷ l) (suc k) x = rw (eqb-suc-suc (length l) k) (get_or-snoc l k x)

-- a store, element by element mapped
pub map-set : {A B : Type 0} (f : A → B) (l : List A) (k : ℕ) (x : A) → map f (set l k x) ≡ set (map f l) k (f x)
map-set f [] k x = refl
map-set f (y ∷ l) zero x = refl
map-set f (y ∷ l) (suc k) x = ap (λ (r : List _). f y ∷ r) (map-set f l k x)

pub map_snoc : {A B : Type 0} (f : A → B) (l : List A) (a : A) → map f (l ++ (a ∷ [])) ≡ map f l ++ (f a ∷ [])
map_snoc f [] a = refl
map_snoc f (b ∷ l) a = ap (λ (r : List _). f b ∷ r) (map_snoc f l a)

pub no_length : {A : Type 0} (l : List A) → length l ≡ 0 → l ≡ []
no_length [] e = refl
no_length (a ∷ l) e = absurd (omega arith)

-- ---- numbers counted up

pub from_next : (k n : ℕ) → k < n → from k (n - k) ≡ k ∷ from (k + 1) (n - (k + 1))
from_next k n h =
    let e : n - k ≡ suc (n - (k + 1)) = omega arith in
    rw (e, add-one)

pub from-done : (k n : ℕ) → n ≤ k → from k (n - k) ≡ []
from-done k n h =
    let e : n - k ≡ 0 = omega arith in
    rw e

pub length_from : (k n : ℕ) → length (from k n) ≡ n
length_from k zero = refl
length_from k (suc n) = ap suc (length_from (suc k) n)

pub map-from : {A : Type 0} (f : ℕ → A) (k n i : ℕ) (d : A) → i < n → get_or (map f (from k n)) i d ≡ f (k + i)
map-from f k zero i d h = absurd (not-suc-le-zero h)
map-from f k (suc n) zero d h = ap f (sym (add-zero k))
map-from f k (suc n) (suc i) d h =
    let j : suc k + i ≡ k + suc i = omega arith in
    map-from f (suc k) n i d (le_of_suc-le-suc h) ∙ ap f j

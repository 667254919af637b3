-- Laws of answers: what a refusal leaves of the steps after it, and many answers in order.
use mathlib.Core.Path.{◌≡◌, refl, sym, ◌∙◌}
use Prim.Native.Nat.{ℕ, zero, suc, ◌+◌, ◌-◌, ◌<◌, ◌≤◌}
use mathlib.Core.List.{List, [], ◌∷◌, map}
use native.Mathlib.Nat.{add-zero}
use native.Mathlib.Omega.{arith}
use Rattle.common.specs.Lists.{from}
use Rattle.common.specs.Answers.{Place, Answer, gives, refused, on_given, each, refusal_of}
use Rattle.common.proofs.Bools.{clash}
use Rattle.common.proofs.Lists.{from_next, from-done}

-- ---- a refusal, and what is given

pub given : {A : Type 0} {x y : A} → gives x ≡ gives y → x ≡ y
given e = cc

-- the same refusal, of another call
pub same_refusal : {A B : Type 0} {m n : ℕ} {p q : Place} → ◌≡◌ {A = Answer A} (refused m p) (refused n q) → ◌≡◌ {A = Answer B} (refused m p) (refused n q)
same_refusal e = cc

pub refused-is : {A : Type 0} (a : Answer A) (n : ℕ) (at : Place) → refusal_of a ≡ refused n at → a ≡ refused n at
refused-is (gives x) n at e = cc
refused-is (refused m p) n at e = cc

-- a refusal stays, whatever is made of what was given
pub given_refusal : {A B : Type 0} (a : Answer A) (g : A → B) → refusal_of (on_given a (λ x. gives (g x))) ≡ refusal_of a
given_refusal (gives x) g = refl
given_refusal (refused n at) g = refl

pub after-given : {A B : Type 0} (a : Answer A) (more : A → Answer B) → refusal_of a ≡ gives tt → (o : Answer (Unit {0})) → ((x : A) → refusal_of (more x) ≡ o) → refusal_of (on_given a more) ≡ o
after-given (gives x) more e o h = h x
after-given (refused n at) more e o h = cc

pub after-refused : {A B : Type 0} (a : Answer A) (more : A → Answer B) (n : ℕ) (at : Place) → refusal_of a ≡ refused n at → on_given a more ≡ refused n at
after-refused (gives x) more n at e = cc
after-refused (refused m p) more n at e = cc

-- a call that is only judged, and then another
pub passed : {A B : Type 0} (x : Answer A) (a : Answer B) → gives tt ≡ refusal_of x → on_given x (λ y. a) ≡ a
passed (gives y) a e = refl
passed (refused n at) a e = cc

-- ---- all of them in order, or the first refusal

-- past one that is not refused, those after it decide
each-past : {A : Type 0} (f : ℕ → Answer A) (x : ℕ) (xs : List ℕ) (o : Answer (Unit {0})) → refusal_of (f x) ≡ gives tt → refusal_of (each f xs) ≡ o → refusal_of (each f (x ∷ xs)) ≡ o
each-past f x xs o e rest = after-given (f x) (λ y. on_given (each f xs) (λ ys. gives (y ∷ ys))) e o (λ y. given_refusal (each f xs) (λ ys. y ∷ ys) ∙ rest)

module _ {A : Type 0} (f : ℕ → Answer A) (k n : ℕ) where
  -- one that is not refused says nothing
  pub each_turn : k < n → refusal_of (f k) ≡ gives tt → refusal_of (each f (from (k + 1) (n - (k + 1)))) ≡ refusal_of (each f (from k (n - k)))
  each_turn h e = rw (from_next k n h) (sym (each-past f k (from (k + 1) (n - (k + 1))) _ e refl))

  -- one that is refused says it all
  pub each-stop : k < n → (m : ℕ) (at : Place) → refusal_of (f k) ≡ refused m at → refused m at ≡ refusal_of (each f (from k (n - k)))
  each-stop h m at e = rw (from_next k n h, after-refused (f k) (λ y. on_given (each f (from (k + 1) (n - (k + 1)))) (λ ys. gives (y ∷ ys))) m at e)

  pub each-end : n ≤ k → gives tt ≡ refusal_of (each f (from k (n - k)))
  each-end h = rw (from-done k n h)

-- none is refused: the first and the rest, and each of n from k on
pub fine-first : {A : Type 0} (f : ℕ → Answer A) (x : ℕ) (xs : List ℕ) → refusal_of (each f (x ∷ xs)) ≡ gives tt → (refusal_of (f x) ≡ gives tt) × (refusal_of (each f xs) ≡ gives tt)
fine-first f x xs e = go (f x) refl e
  where
    go : (a : Answer _) → f x ≡ a → refusal_of (on_given a (λ y. on_given (each f xs) (λ ys. gives (y ∷ ys)))) ≡ gives tt → (refusal_of (f x) ≡ gives tt) × (refusal_of (each f xs) ≡ gives tt)
    go (gives y) p q = (rw p, sym (given_refusal (each f xs) (λ ys. y ∷ ys)) ∙ q)
    go (refused n at) p q = clash (cc)

pub each-fine : {A : Type 0} (f : ℕ → Answer A) (k n r : ℕ) → refusal_of (each f (from k n)) ≡ gives tt → r < n → refusal_of (f (k + r)) ≡ gives tt
each-fine f k zero r e h = absurd (omega arith)
each-fine f k (suc n) zero e h = rw add-zero (fine-first f k (from (suc k) n) e).0
each-fine f k (suc n) (suc r) e h =
    let j : k + suc r ≡ suc k + r = omega arith in
    rw j (each-fine f (suc k) n r (fine-first f k (from (suc k) n) e).1 (omega arith))

-- each is given, and then all are
pub each-given : {A : Type 0} (f : ℕ → Answer A) (g : ℕ → A) (k n : ℕ) → ((x : ℕ) → k ≤ x → x < k + n → f x ≡ gives (g x)) → each f (from k n) ≡ gives (map g (from k n))
each-given f g k zero h = refl
each-given f g k (suc n) h =
    rw (h k (omega arith) (omega arith), each-given f g (suc k) n (λ x p q. h x (omega arith) (omega arith)))

pub none-refused : {A : Type 0} (f : ℕ → Answer A) (k n : ℕ) → ((x : ℕ) → k ≤ x → x < k + n → refusal_of (f x) ≡ gives tt) → refusal_of (each f (from k n)) ≡ gives tt
none-refused f k zero g = refl
none-refused f k (suc n) g = each-past f k (from (suc k) n) (gives tt) (g k (omega arith) (omega arith)) (none-refused f (suc k) n (λ x p q. g x (omega arith) (omega arith)))

-- the first of n from k on that is refused says it all
pub first_refused : {A : Type 0} (f : ℕ → Answer A) (k n c m : ℕ) (at : Place) → c < n → ((x : ℕ) → k ≤ x → x < k + c → refusal_of (f x) ≡ gives tt) → f (k + c) ≡ refused m at → refusal_of (each f (from k n)) ≡ refused m at
first_refused f k zero c m at h g e = absurd (omega arith)
first_refused f k (suc n) zero m at h g e = let e₀ : f k ≡ refused m at = rw add-zero at e in rw e₀
first_refused f k (suc n) (suc c) m at h g e =
    let j : k + suc c ≡ suc k + c = omega arith in
    each-past f k (from (suc k) n) (refused m at) (g k (omega arith) (omega arith)) (first_refused f (suc k) n c m at (omega arith) (λ x p q. g x (omega arith) (omega arith)) (rw j at e))

-- functions that agree
pub each_same : {A : Type 0} (f g : ℕ → Answer A) (xs : List ℕ) → ((x : ℕ) → f x ≡ g x) → each f xs ≡ each g xs
each_same f g [] h = refl
each_same f g (x ∷ xs) h = rw (h x, each_same f g xs h)

-- what is made of each, where it is given, changes no refusal
pub each-made : {A B : Type 0} (f : ℕ → Answer A) (g : A → B) (xs : List ℕ) → refusal_of (each (λ (x : ℕ). on_given (f x) (λ y. gives (g y))) xs) ≡ refusal_of (each f xs)
each-made f g [] = refl
each-made f g (x ∷ xs) = go (f x) (each-made f g xs)
  where
    go : (a : Answer _) → refusal_of (each (λ (x : ℕ). on_given (f x) (λ y. gives (g y))) xs) ≡ refusal_of (each f xs)
        → refusal_of (on_given (on_given a (λ y. gives (g y))) (λ z. on_given (each (λ (x : ℕ). on_given (f x) (λ y. gives (g y))) xs) (λ zs. gives (z ∷ zs)))) ≡ refusal_of (on_given a (λ z. on_given (each f xs) (λ zs. gives (z ∷ zs))))
    go (gives y) e = given_refusal (each (λ (x : ℕ). on_given (f x) (λ y. gives (g y))) xs) (λ zs. g y ∷ zs) ∙ e ∙ sym (given_refusal (each f xs) (λ zs. y ∷ zs))
    go (refused n at) e = refl

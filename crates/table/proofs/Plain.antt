-- Bytes that are given one after the other.
use mathlib.Core.Path.{◌≡◌, refl, sym}
use mathlib.Core.List.{List, [], ◌∷◌, ◌++◌, map}
use Prim.Native.Nat.{ℕ, zero, suc, ◌+◌, ◌-◌, ◌*◌, ◌<◌}
use native.Mathlib.Nat.{zero-mul, suc-mul}
use native.Mathlib.Omega.{arith}
use lib.ListN.{length, length-append}
use Rattle.common.specs.Lists.{from}
use Rattle.common.specs.Answers.{Answer, gives, refused, each, refusal_of}
use Rattle.common.proofs.Lists.{from_next}
use Rattle.common.proofs.Answers.{fine-first}
use Rattle.table.specs.inner.Columns.{given_bytes, plain}

pub bytes-given : (a : Answer (List ℕ)) → refusal_of a ≡ gives tt → a ≡ gives (given_bytes a)
bytes-given (gives b) e = refl
bytes-given (refused n at) e = absurd (let y : ◌≡◌ {A = ℕ} 0 1 = cc in omega arith)

-- all of them, given
pub all-given : (f : ℕ → Answer (List ℕ)) (xs : List ℕ) → refusal_of (each f xs) ≡ gives tt → each f xs ≡ gives (map (λ (x : ℕ). given_bytes (f x)) xs)
all-given f [] e = refl
all-given f (x ∷ xs) e =
    let p = fine-first f x xs e in
    rw (bytes-given (f x) p.0, all-given f xs p.1)

module _ (f : ℕ → Answer (List ℕ)) where
  pub plain_turn : (k n : ℕ) → k < n → plain f k (n - k) ≡ given_bytes (f k) ++ plain f (k + 1) (n - (k + 1))
  plain_turn k n h = rw (from_next k n h)

  -- each has w bytes
  pub plain-length : (w k n : ℕ) → ((x : ℕ) → refusal_of (f x) ≡ gives tt → length (given_bytes (f x)) ≡ w) → refusal_of (each f (from k n)) ≡ gives tt → length (plain f k n) ≡ n * w
  plain-length w k zero h e = sym (zero-mul w)
  plain-length w k (suc n) h e =
      let p = fine-first f k (from (suc k) n) e in
      rw (length-append, h k p.0, plain-length w (suc k) n h p.1) (omega (arith, suc-mul n w))

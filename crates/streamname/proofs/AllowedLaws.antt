-- Laws of the units that a valid name may have.
use Prim.Native.Nat.{ℕ, zero, suc, ◌+◌, ◌<◌}
use mathlib.Core.Path.{◌≡◌}
use mathlib.Core.Bool.{Bool, true, false, ◌&&◌}
use mathlib.Core.List.{List, [], ◌∷◌}
use Rattle.std.specs.Prelude.{Option, None, Some}
use native.Mathlib.Omega.{arith}
use native.Mathlib.Nat.{le_of_suc-le-suc, not-suc-le-zero}
use native.Mathlib.Numerals.{add-one}
use lib.Dec.{T}
use lib.ListN.{length, drop, get_or}
use lib.Seq.{drop-cons}
use borrow.Author.Tests.{ne_eqb}
use Rattle.common.specs.Lists.{every}
use Rattle.common.proofs.Below.{all_below, each}
use Rattle.common.proofs.Bools.{clash, both_true, holds}
use Rattle.streamname.specs.Letters.{letters, to_b64_lem}
use Rattle.streamname.specs.Names.{allowed}
use Rattle.streamname.specs.Promises.{Coded}
use Rattle.streamname.proofs.LetterLaws.{inside, letter_small}

-- a coded unit is not allowed
pub coded_not : (u : ℕ) → Coded u → allowed u ≡ false
coded_not u h = simp (ne_eqb u 0x21 (omega arith), ne_eqb u 0x2F (omega arith), ne_eqb u 0x3A (omega arith), ne_eqb u 0x5C (omega arith), inside 0x3800 0x483F u h.0 h.1)

-- where every unit is allowed, none is coded
pub every-clear : (name : List ℕ) → every allowed name ≡ true → (k : ℕ) → k < length name → ¬ Coded (get_or name k 0)
every-clear [] e k h = absurd (not-suc-le-zero h)
every-clear (u ∷ rest) e zero h = λ c. let f = (both_true (allowed u) (every allowed rest) e).0 in let g = coded_not u c in clash (cc)
every-clear (u ∷ rest) e (suc k) h = every-clear rest (both_true (allowed u) (every allowed rest) e).1 k (le_of_suc-le-suc h)

-- a letter is allowed: one test over all the units below 0x7B, past which there is none
allowed_if : Option ℕ → ℕ → Bool
allowed_if None u = true
allowed_if (Some a) u = allowed u

all-letters : T (all_below (λ u. allowed_if (to_b64_lem u) u) 0x7B)
unfolding letters allowed_if
all-letters = tt

pub letter_allowed : (u a : ℕ) → to_b64_lem u ≡ Some a → allowed u ≡ true
unfolding allowed_if
letter_allowed u a e = holds (allowed u) (rw e at (each (λ v. allowed_if (to_b64_lem v) v) 0x7B all-letters u (letter_small u a e)))

pub every-next : (name : List ℕ) (i : ℕ) → i < length name → every allowed (drop i name) ≡ (allowed (get_or name i 0) && every allowed (drop (i + 1) name))
every-next name i h = rw (add-one, drop-cons name i 0 h)

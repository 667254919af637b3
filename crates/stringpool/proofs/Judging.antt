-- What is known where a pool was judged: its entries fit its rooms, and what follows is what the call answers.
use mathlib.Core.Path.{◌≡◌, refl, ap, ◌∙◌}
use Prim.Native.Nat.{ℕ, ◌-◌}
use lib.ListN.{take}
use lib.IntN.{ℤ, nat_abs}
use Rattle.common.specs.Lists.{total}
use Rattle.common.specs.Answers.{Answer, gives, refused, nowhere, on_given}
use Rattle.common.specs.Refs.{reference}
use Rattle.pool_entries.specs.Calls.{judge_answer}
use Rattle.pool_entries.proofs.Calls.{call_passed, call_size, call_given, call_on}
use Rattle.stringpool.specs.Pool.{Rooms, on_sound}
use Rattle.stringpool.specs.Refs.{on_reference}
use Rattle.stringpool.specs.inner.Judged.{Judged}
use Rattle.stringpool.specs.declared.pool.StringPool.{StringPool}

-- on with the place that was found, or its refusal
placed : {A : Type 0} (r : ℤ) (f : ℕ → Answer A) {a : Answer ℕ} → a ≡ on_reference r gives → on_given a f ≡ on_reference r f
placed {A} r f e = ap (λ (x : Answer ℕ). on_given x f) e ∙ go (reference nowhere r)
  where
    go : (x : Answer ℤ) → on_given {B = A} (on_given x (λ n. gives (nat_abs n - 1))) f ≡ on_given x (λ n. f (nat_abs n - 1))
    go (gives n) = refl
    go (refused m at) = refl

module _ (p : StringPool) (w : Rooms) {u : ℕ} (e : gives u ≡ judge_answer p.num_strings p.codepage w) where
  abbrev used : ℕ
  used = total (take p.num_strings w.lengths)

  pub judged : Judged p w u
  judged =
      let f = call_passed p.num_strings p.codepage w used e in
      record { fit = f.fit; sum = call_given p.num_strings p.codepage w used e; few = f.few; large = call_size p.num_strings p.codepage w used e }

  pub on_judged : {A : Type 0} (a : Answer A) → a ≡ on_sound p w a
  on_judged a = call_on p.num_strings p.codepage w used e a

  -- on with the place k of a reference number, which a call was handed as r'
  pub on_place : {A : Type 0} (r : ℤ) {r' : ℤ} {k : ℕ} → r' ≡ r → gives k ≡ on_reference r' gives → (f : ℕ → Answer A) → f k ≡ on_sound p w (on_reference r f)
  on_place r back h f = placed r f (h ∙ ap (λ (z : ℤ). on_reference z gives) back) ∙ on_judged (on_reference r f)

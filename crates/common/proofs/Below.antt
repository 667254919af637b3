-- A rule of every number below a bound, from a test that antt computes once over all of them.
use Prim.Native.Nat.{ℕ, zero, suc, ◌<◌}
use mathlib.Core.Path.{sym, subst}
use mathlib.Core.Logic.{⊎_elim}
use mathlib.Core.Bool.{Bool, true, false, ◌&&◌}
use native.Mathlib.Nat.{le_of_suc-le-suc, not-suc-le-zero, eq-or-lt_of_le}
use lib.Dec.{T}

pub both : (a b : Bool) → T (a && b) → T a × T b
both true b t = (tt, t)
both false b t = absurd t

abbrev pub all_below : (ℕ → Bool) → ℕ → Bool
all_below p zero = true
all_below p (suc n) = p n && all_below p n

pub each : (p : ℕ → Bool) (n : ℕ) → T (all_below p n) → (k : ℕ) → k < n → T (p k)
each p zero t k h = absurd (not-suc-le-zero h)
each p (suc n) t k h =
    ⊎_elim (λ e. subst (λ (m : ℕ). T (p m)) (sym e) (both (p n) (all_below p n) t).0) (λ l. each p n (both (p n) (all_below p n) t).1 k l)
    (eq-or-lt_of_le (le_of_suc-le-suc h))

-- Laws of `total` along a list that is read from the front.
use mathlib.Core.Path.{◌≡◌, sym, ap, ◌∙◌}
use Prim.Native.Nat.{ℕ, suc, ◌+◌, ◌-◌, ◌≤◌, ◌<◌}
use native.Mathlib.Nat.{add-zero, zero-add, add_assoc}
use native.Mathlib.Omega.{arith}
use mathlib.Core.List.{List, [], ◌∷◌, ◌++◌}
use lib.ListN.{length, take, drop, get_or}
use lib.Seq.{take-add, take-suc}
use Rattle.common.specs.Lists.{total}

pub total-append : (xs ys : List ℕ) → total (xs ++ ys) ≡ total xs + total ys
total-append [] ys = sym (zero-add (total ys))
total-append (x ∷ xs) ys = ap (λ (k : ℕ). x + k) (total-append xs ys) ∙ sym (add_assoc x (total xs) (total ys))

-- one more
pub total-suc : (ls : List ℕ) (i : ℕ) → i < length ls → total (take (suc i) ls) ≡ total (take i ls) + get_or ls i 0
total-suc ls i h =
    ap total (take-suc ls i 0 h) ∙ total-append (take i ls) (get_or ls i 0 ∷ []) ∙ ap (λ (k : ℕ). total (take i ls) + k) (add-zero (get_or ls i 0))

-- a part sums to at most the whole
pub total-le : (ls : List ℕ) (i n : ℕ) → i ≤ n → total (take i ls) ≤ total (take n ls)
total-le ls i n h =
    let e : i + (n - i) ≡ n = omega arith in
    omega (arith, ap (λ (k : ℕ). total (take k ls)) (sym e) ∙ ap total (take-add i (n - i) ls) ∙ total-append (take i ls) (take (n - i) (drop i ls)))

-- an element ends where the next starts, within the whole
pub total-in : (ls : List ℕ) (i n : ℕ) → i < n → n ≤ length ls → total (take i ls) + get_or ls i 0 ≤ total (take n ls)
total-in ls i n h hn = omega (arith, total-suc ls i (omega arith), total-le ls (suc i) n h)

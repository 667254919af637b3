-- Numbers of a text, the bytes of a word and the items of a list, one step at a time.
use Prim.Native.Nat.{ℕ, zero, suc, ◌+◌, ◌*◌, ◌-◌, ◌≤◌, ◌<◌, min}
use mathlib.Core.Path.{◌≡◌, refl, ap}
use mathlib.Core.Bool.{Bool, true, false}
use mathlib.Core.List.{List, [], ◌∷◌}
use native.Mathlib.Numerals.{add-one}
use native.Mathlib.Omega.{arith}
use lib.ListN.{length, drop, get_or, drop_of_length-le}
use lib.Seq.{drop-cons}
use Rattle.std.proofs.Common.{rules}
use borrow.Author.Tests.{ltb-true, ltb-false, lt-ltb, le-ltb}
use Rattle.common.specs.Choice.{when◌then◌else◌, ◌<?◌, ◌=?◌}
use Rattle.common.specs.Lists.{◌over◌}
use Rattle.std.specs.Char.{is_ascii_digit}
use Rattle.commands.specs.Words.{byte_at, value_of, pairs_in, end_of, after_end, digits_at, times_at_lem, product, pair_over, bytes_outcome, listed, next_at, next_times, items_left}

-- ---- numbers

module _ (sum : ℕ) (s : List ℕ) (i : ℕ) where
  pub value_stop : i < length s → is_ascii_digit (get_or s i 0) ≡ false → sum ≡ value_of sum (drop i s)
  unfolding value_of
  value_stop h e = rw (drop-cons s i 0 h, e) refl

  pub value_full : i < length s → is_ascii_digit (get_or s i 0) ≡ true → 999999999 < sum → 0 ≡ value_of sum (drop i s)
  unfolding value_of
  value_full h e f = rw (drop-cons s i 0 h, e, lt-ltb 999999999 sum f) refl

  pub value_turn : i < length s → is_ascii_digit (get_or s i 0) ≡ true → sum ≤ 999999999 → value_of sum (drop i s) ≡ value_of (sum * 10 + (get_or s i 0 - 48)) (drop (i + 1) s)
  unfolding value_of
  value_turn h e f = rw (drop-cons s i 0 h, e, le-ltb 999999999 sum f, add-one) refl

  pub value_end : length s ≤ i → sum ≡ value_of sum (drop i s)
  unfolding value_of
  value_end h = rw (drop_of_length-le s {i = i} h) refl

-- ---- the bytes of a word

pub listed-length : (f : ℕ → ℕ) (k n : ℕ) → length (listed f k n) ≡ n
unfolding listed
listed-length f k zero = refl
listed-length f k (suc n) = ap suc (listed-length f (suc k) n)

pub listed_next : (f : ℕ → ℕ) (k n : ℕ) → k < n → listed f k (n - k) ≡ f k ∷ listed f (k + 1) (n - (k + 1))
unfolding listed
listed_next f k n h =
    let e : n - k ≡ suc (n - suc k) = omega arith in
    rw (e, add-one) refl

pub listed-end : (f : ℕ → ℕ) (k n : ℕ) → n ≤ k → listed f k (n - k) ≡ []
unfolding listed
listed-end f k n h =
    let e : n - k ≡ 0 = omega arith in
    rw e refl

pub stored : (s : List ℕ) (from end once times p n : ℕ) (out before : List ℕ) → end ≡ end_of s from 2 → once ≡ pairs_in s from end → times ≡ times_at_lem s end → p ≡ product once times → n ≡ min (length before) p → out ≡ listed (pair_over s from once) 0 n over before → ◌≡◌ {A = ℕ × List ℕ} (n, out) (bytes_outcome s from before)
stored s from end once times p n out before e o t q m left = rw (left, m, q, t, o, e) refl

-- ---- the items of a list

digit_most : (b : ℕ) → is_ascii_digit b ≡ true → b ≤ 57
digit_most b e = search rules

value-bound : (sum : ℕ) (s : List ℕ) → sum ≤ 9999999999 → value_of sum s ≤ 9999999999
unfolding value_of
value-bound sum [] h = h
value-bound sum (b ∷ s) h = go (is_ascii_digit b) refl (999999999 <? sum) refl (λ k m. value-bound k s m)
  where
    go : (t : Bool) → is_ascii_digit b ≡ t → (u : Bool) → (999999999 <? sum) ≡ u → ((k : ℕ) → k ≤ 9999999999 → value_of k s ≤ 9999999999) → (when t then (when u then 0 else value_of (sum * 10 + (b - 48)) s) else sum) ≤ 9999999999
    go false e u f more = h
    go true e true f more = omega arith
    go true e false f more = more (sum * 10 + (b - 48)) (omega (arith, ltb-false 999999999 sum f, digit_most b e))

times-bound : (s : List ℕ) (e : ℕ) → times_at_lem s e ≤ 9999999999
times-bound s e = go (byte_at s e =? 42)
  where
    go : (t : Bool) → (when t then digits_at s (after_end s e) else 1) ≤ 9999999999
    go true = value-bound 0 _ (omega arith)
    go false = omega arith

-- an item's end lies before its text's, or is that
later : (s : List ℕ) (at : ℕ) → at < length s → at < after_end s (end_of s at 3)
later s at h = go (end_of s at 3 <? length s) refl
  where
    go : (t : Bool) → (end_of s at 3 <? length s) ≡ t → at < (when t then end_of s at 3 + 1 else end_of s at 3)
    go true e = omega arith
    go false e = omega (arith, ltb-false (end_of s at 3) (length s) e)

fewer : (m at left at' left' : ℕ) → at < m → (at' < m → (m - at') * 10000000000 + left' < (m - at) * 10000000000 + left) → (when at' <? m then (m - at') * 10000000000 + left' else 0) < (when at <? m then (m - at) * 10000000000 + left else 0)
fewer m at left at' left' h less = rw (lt-ltb at m h) (go (at' <? m) refl)
  where
    go : (t : Bool) → (at' <? m) ≡ t → (when t then (m - at') * 10000000000 + left' else 0) < (m - at) * 10000000000 + left
    go true e = less (ltb-true at' m e)
    go false e = omega arith

pub items_fewer : (s t : List ℕ) (at left end at' left' : ℕ) → t ≡ s → at' ≡ next_at s at left → left' ≡ next_times s at left → at < min end (length s) → items_left t at' left' end < items_left s at left end
items_fewer s t at left end at' left' e a l h = rw (e, a, l) (go (1 <? left) refl)
  where
    go : (u : Bool) → (1 <? left) ≡ u → items_left s (when u then at else after_end s (end_of s at 3)) (when u then left - 1 else times_at_lem s (end_of s (after_end s (end_of s at 3)) 2)) end < items_left s at left end
    go true f = fewer (min end (length s)) at left at (left - 1) h (λ k. omega (arith, ltb-true 1 left f))
    go false f =
        let on : at < after_end s (end_of s at 3) = later s at (omega (arith, h)) in
        let few = times-bound s (end_of s (after_end s (end_of s at 3)) 2) in
        fewer (min end (length s)) at left _ _ h (λ k. omega (arith, on, k, few))

-- Laws of the passes over the lengths.
use Rattle.std.proofs.Common.{◌≡◌, ℕ, suc, ◌+◌, ◌-◌, ◌*◌, ◌%◌, ◌^◌, ◌<◌, ◌≤◌, List, [], ◌∷◌, ◌++◌, length, get_or, take, drop, sym, refl, ap, ap₂, ◌∙◌, subst, ⊎_elim, add-one, arith, length-append, length-drop, length-take-le, get_or-drop, get_or-take, take-take}
use Rattle.std.proofs.Math.ListN.{get_or-append}
use Rattle.std.proofs.Math.Seq.{get_or-append_right, take_all}
use Rattle.std.proofs.lemmas.List.{nil_from_length, take-append-drop, drop-take}
use Rattle.std.proofs.lemmas.List.Sums.{sum_by-cons}
use Rattle.std.specs.List.{sum}
use lib.Bits.{bit_or, or_add_and, and_le_l, and_le_r}
use Rattle.common.specs.Lists.{total}
use Rattle.common.proofs.Bools.{lt_or_le}
use Rattle.common.proofs.Sums.{total-suc, total-append}
use Rattle.pool_entries.specs.inner.Adding.{Each, Short, Tallied, Summed}

-- ---- what holds of each place

pub each-join : {P : ℕ → Type 0} {from i to : ℕ} → Each P from i → Each P i to → Each P from to
each-join {i = i} h g k a b = ⊎_elim (h k a) (λ l. g k l b) (lt_or_le k i)

pub each_next : {P : ℕ → Type 0} {from i : ℕ} → Each P from i → P i → Each P from (i + 1)
each_next {P} {from} {i} h g k a b = ⊎_elim (h k a) (λ l. let e : k ≡ i = omega arith in subst P (sym e) g) (lt_or_le k i)

-- ---- sums

pub total-next : (ls : List ℕ) (i j : ℕ) → j ≡ i + 1 → i < length ls → total (take j ls) ≡ total (take i ls) + get_or ls i 0
total-next ls i j e h = ap (λ (k : ℕ). total (take k ls)) (e ∙ add-one i) ∙ total-suc ls i h

-- both numbers are at most their bits together
pub or_left : (a b : ℕ) → a ≤ bit_or a b
or_left a b = omega (arith, or_add_and a b, and_le_r a b)

pub or_right : (a b : ℕ) → b ≤ bit_or a b
or_right a b = omega (arith, or_add_and a b, and_le_l a b)

-- one more length is tallied
pub tally-next : (ls : List ℕ) (i s x : ℕ) → i < length ls → i < 4096 → get_or ls i 0 ≤ 65535
    → Tallied ls i s → x ≡ (s + get_or ls i 0) % 2 ^ 32 → Tallied ls (i + 1) x
tally-next ls i s x h b short t e =
    let few = t.few in
    let same : x ≡ s + get_or ls i 0 = omega arith in
    record {
      sum = omega (arith, t.sum, total-next ls i (i + 1) refl h);
      few = omega arith;
      short = each_next t.short short;
    }

-- the library's sum is the total
sum_total : (ls : List ℕ) → sum ls ≡ total ls
sum_total [] = refl
sum_total (x ∷ xs) = sum_by-cons (λ (n : ℕ). n) x xs ∙ ap (λ (n : ℕ). x + n) (sum_total xs)

-- as many as 32-bit numbers make
total-few : (ls : List ℕ) → ((i : ℕ) → get_or ls i 0 ≤ 4294967295) → total ls ≤ 4294967295 * length ls
total-few [] h = omega arith
total-few (x ∷ xs) h = omega (arith, h 0, total-few xs (λ i. h (suc i)))

-- a tally of all of them
pub tally-all : {ls : List ℕ} {s bits : ℕ} → Tallied ls (length ls) s → Summed ls s bits
tally-all {ls} t = record { sum = t.sum ∙ ap total (take_all (length ls) ls (omega arith)); few = omega (arith, t.few); short = λ b. t.short }

pub sum-all : {ls : List ℕ} {s bits : ℕ} → ((i : ℕ) → get_or ls i 0 ≤ 4294967295) → 65535 < bits → s ≡ sum ls → Summed ls s bits
sum-all {ls} h b e = let f = e ∙ sum_total ls in record { sum = f; few = omega (arith, f, total-few ls h); short = λ c. absurd (omega arith) }

-- ---- block after block: what is short in the rest is short in all

abbrev pub AllShort : List ℕ → Type 0
AllShort ls = Short ls 0 (length ls)

short-append : (xs ys : List ℕ) → AllShort xs → AllShort ys → AllShort (xs ++ ys)
short-append xs ys a b k h g =
    ⊎_elim (λ (l : k < length xs). rw (get_or-append xs ys 0 k l) (a k h l))
    (λ (l : length xs ≤ k). rw (get_or-append_right xs ys k 0 l) (b (k - length xs) (omega arith) (omega (arith, length-append xs ys)))) (lt_or_le k (length xs))

-- some blocks are summed, and the rest is to come
pub record SummedTo (ls rest : List ℕ) (all bits : ℕ) : Type 0 where
  pub sum : all + total rest ≡ total ls
  pub few : all + 4294967295 * length rest ≤ 4294967295 * length ls
  pub short : bits ≤ 65535 → AllShort rest → AllShort ls

pub blocks-next : {ls block rest now : List ℕ} {s bits x more : ℕ} → now ≡ block ++ rest → SummedTo ls now s bits → Summed block x more
    → SummedTo ls rest (s + x) (bit_or bits more)
blocks-next {ls} {block} {rest} {now} {s} {bits} {x} {more} e a b =
    let l : length now ≡ length block + length rest = ap length e ∙ length-append block rest in
    record {
      sum = omega (arith, a.sum, b.sum, ap total e ∙ total-append block rest);
      few = omega (arith, a.few, b.few, l);
      short = λ z r.
          a.short (omega (arith, or_left bits more))
          (subst AllShort (sym e) (short-append block rest (b.short (omega (arith, or_right bits more))) r));
    }

pub blocks-end : {ls rest : List ℕ} {s bits : ℕ} → length rest ≡ 0 → SummedTo ls rest s bits → Summed ls s bits
blocks-end {ls} {rest} e a =
    let none : rest ≡ [] = nil_from_length rest e in
    record { sum = omega (arith, a.sum, ap total none); few = omega (arith, a.few); short = λ z. a.short z (λ k h g. absurd (omega arith)) }

-- ---- the lengths from a place on, by those before it

module _ (ls : List ℕ) (a n : ℕ) (h : a ≤ n) where
  part-is : take n ls ≡ take a ls ++ take (n - a) (drop a ls)
  part-is =
      let e : a + (n - a) ≡ n = omega arith in
      sym (take-append-drop a (take n ls))
      ∙ ap₂ (λ (x y : List ℕ). x ++ y) (take-take a n ls h) (ap (λ (k : ℕ). drop a (take k ls)) (sym e) ∙ drop-take a (n - a) ls)

  pub sum-part : {s all : ℕ} → s ≡ total (take a ls) → all ≡ total (take (n - a) (drop a ls)) → s + all ≡ total (take n ls)
  sum-part e f = omega (arith, e, f, ap total part-is ∙ total-append (take a ls) (take (n - a) (drop a ls)))

  pub short-part : n ≤ length ls → AllShort (take (n - a) (drop a ls)) → Short ls a n
  short-part g s k b c =
      let e : a + (k - a) ≡ k = omega arith in
      let l : length (take (n - a) (drop a ls)) ≡ n - a = length-take-le (n - a) (drop a ls) (omega (arith, length-drop a ls)) in
      subst (λ (x : ℕ). x ≤ 65535) (get_or-take (n - a) (drop a ls) (k - a) 0 (omega arith) ∙ get_or-drop a ls (k - a) 0 ∙ ap (λ (j : ℕ). get_or ls j 0) e)
      (s (k - a) (omega arith) (omega (arith, l)))

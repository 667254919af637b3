-- Laws of the judgement of a state.
use Rattle.std.proofs.Common.{◌≡◌, ℕ, zero, suc, ◌+◌, ◌<◌, ◌≤◌, min, Bool, true, false, not, ◌&&◌, ◌||◌, eqb, ltb, leb, List, [], ◌∷◌, length, get_or, take, drop, sym, refl, ap, ◌∙◌, subst, ap₂, add-one, arith, length-drop, length-take-le, get_or-drop, drop-cons, get_or-take, ltb-false, ltb-true, lt-ltb, ne_eqb, le-leb, leb-true}
use Rattle.std.specs.List.{list_all, zip}
use borrow.Author.Tests.{lt-leb}
use Rattle.common.specs.Choice.{when◌then◌else◌, ◌<?◌, ◌≤?◌, ◌=?◌}
use Rattle.common.specs.Sizes.{max_bytes}
use Rattle.common.specs.Lists.{total}
use Rattle.common.specs.Answers.{Answer, Place, gives, refused, nowhere, on_given}
use Rattle.pool_entries.specs.Entries.{Entry, Rooms, cut, entry_room_lem, free, all}
use Rattle.pool_entries.specs.Sound.{sound_rooms, on_sound_rooms}
use Rattle.pool_entries.specs.inner.Adding.{Short}
use Rattle.pool_entries.specs.inner.Look.{Counted, SmallTo}
use Rattle.pool_entries.specs.inner.Sound.{small_b, all_small_lem, sums_b, fits_b, sound_b, used_of}
use Rattle.pool_entries.specs.inner.Held.{entries_answer}
use Rattle.common.proofs.Outcomes.{refused-gives}

-- ---- small entries, read from the front

-- as the code looks at them, by pairs
pub small-zip : (ls cs : List ℕ) → list_all (λ (p : ℕ × ℕ). small_b p.0 p.1) (zip ls cs) ≡ all_small_lem ls cs
small-zip [] cs = refl
small-zip (l ∷ ls) [] = refl
small-zip (l ∷ ls) (c ∷ cs) = ap (λ (b : Bool). small_b l c && b) (small-zip ls cs) ∙ go (small_b l c) (all_small_lem ls cs)
  where
    go : (a b : Bool) → (a && b) ≡ (when a then b else false)
    go true b = refl
    go false b = refl

-- the entry at i decides, or those after it
all_small-step : (n : ℕ) (ls cs : List ℕ) (i : ℕ) → n ≤ length ls → n ≤ length cs → i < n
    → all_small_lem (drop i (take n ls)) (drop i (take n cs))
    ≡ (when small_b (get_or ls i 0) (get_or cs i 0) then all_small_lem (drop (suc i) (take n ls)) (drop (suc i) (take n cs)) else false)
all_small-step n ls cs i hl hc h =
    let hl' : i < length (take n ls) = simp length-take-le (omega arith) in
    let hc' : i < length (take n cs) = simp length-take-le (omega arith) in
    ap₂ all_small_lem (drop-cons (take n ls) i 0 hl') (drop-cons (take n cs) i 0 hc')
    ∙ simp (get_or-take n ls i 0 h, get_or-take n cs i 0 h)

-- one entry further
module _ (n : ℕ) (ls cs : List ℕ) (hl : n ≤ length ls) (hc : n ≤ length cs) (i : ℕ) (inv : SmallTo n ls cs i) where
  small-next : i < n → small_b (get_or ls i 0) (get_or cs i 0) ≡ true → SmallTo n ls cs (i + 1)
  small-next h yes' =
      inv ∙ all_small-step n ls cs i hl hc h
      ∙ ap (λ (b : Bool). when b then all_small_lem (drop (suc i) (take n ls)) (drop (suc i) (take n cs)) else false) yes' ∙ rw (add-one i)

  -- an entry that is counted is small
  small-counted : i < n → 0 < get_or cs i 0 → SmallTo n ls cs (i + 1)
  small-counted h c =
      small-next h (ap (λ (b : Bool). (when b then leb (get_or ls i 0) 65535 else true)) (ne_eqb (get_or cs i 0) 0 (λ e. omega arith)))

-- entries that are counted are small
pub counted-small : (n : ℕ) (ls cs : List ℕ) → n ≤ length ls → n ≤ length cs → (k : ℕ) → k ≤ n → Counted cs 0 k → SmallTo n ls cs k
counted-small n ls cs hl hc zero h c = refl
counted-small n ls cs hl hc (suc k) h c =
    let e : k + 1 ≡ suc k = add-one k in
    subst (SmallTo n ls cs) e
    (small-counted n ls cs hl hc k (counted-small n ls cs hl hc k (omega arith) (λ j a b. c j a (omega arith))) (omega arith) (c k (omega arith) (omega arith)))

small-short : (l c : ℕ) → l ≤ 65535 → small_b l c ≡ true
small-short l c h = go (eqb c 0)
  where
    go : (b : Bool) → (when b then leb l 65535 else true) ≡ true
    go true = le-leb l 65535 h
    go false = refl

all_short : (ls cs : List ℕ) → ((k : ℕ) → k < length ls → get_or ls k 0 ≤ 65535) → all_small_lem ls cs ≡ true
all_short [] cs h = refl
all_short (l ∷ ls) [] h = refl
all_short (l ∷ ls) (c ∷ cs) h =
    let e : small_b l c ≡ true = small-short l c (h 0 (omega arith)) in
    ap (λ (b : Bool). (when b then all_small_lem ls cs else false)) e ∙ all_short ls cs (λ k b. h (suc k) (omega arith))

-- ---- the bytes in use

module _ (n : ℕ) (ls cs : List ℕ) (hl : n ≤ length ls) (hc : n ≤ length cs) where
  short-from : (at : ℕ) → at ≤ n → SmallTo n ls cs at → Short ls at n → all_small_lem (take n ls) (take n cs) ≡ true
  short-from at h inv s =
      inv ∙ all_short (drop at (take n ls)) (drop at (take n cs))
      (λ k b.
      let q : at + k < n = omega (arith, length-drop at (take n ls), length-take-le n ls hl) in
      let e : get_or (drop at (take n ls)) k 0 ≡ get_or ls (at + k) 0 = rw get_or-drop (get_or-take n ls (at + k) 0 q) in
      rw e (s (at + k) (omega arith) q))

-- the bytes in use of n entries that fit their rooms
module _ (n : ℕ) (w : Rooms) (hl : n ≤ length w.lengths) (hc : n ≤ length w.counts) (u : ℕ) (e : u ≡ total (take n w.lengths)) where
  abbrev Small : Bool
  Small = all_small_lem (take n w.lengths) (take n w.counts)

  by_tests : (a b : Bool) → Small ≡ a → leb u (length w.text) ≡ b
      → used_of n w ≡ (when (when a then b else false) then gives (total (take n w.lengths)) else refused 24 nowhere)
  by_tests a b f g =
      ap₂ (λ (x y : Bool). when (when x then y else false) then gives (total (take n w.lengths)) else refused 24 nowhere) f (ap (λ (k : ℕ). leb k (length w.text)) (sym e) ∙ g)

  pub used_over : length w.text < u → refused 24 nowhere ≡ used_of n w
  used_over h = sym (by_tests Small false refl (lt-leb u (length w.text) h) ∙ go Small)
    where
      go : (a : Bool) → (when (when a then false else false) then gives (total (take n w.lengths)) else refused 24 nowhere) ≡ refused 24 nowhere
      go true = refl
      go false = refl

  module _ (h : u ≤ length w.text) where
    pub used_sound : Small ≡ true → gives u ≡ used_of n w
    used_sound s = ap gives e ∙ sym (by_tests true true s (le-leb u (length w.text) h))

    pub used_unsound : Small ≡ false → refused 24 nowhere ≡ used_of n w
    used_unsound s = sym (by_tests false true s (le-leb u (length w.text) h))

    pub used_short : (at : ℕ) → at ≤ n → SmallTo n w.lengths w.counts at → Short w.lengths at n → gives u ≡ used_of n w
    used_short at k inv s = used_sound (short-from n w.lengths w.counts hl hc at k inv s)

-- ---- soundness

-- every free entry is small, said of entries and of lengths and counts
small_all : (ls cs ts : List ℕ) → total ls ≤ length ts
    → all (λ (e : Entry). not (free e) || length e.text ≤? 65535) (cut ls cs ts) ≡ all_small_lem ls cs
small_all [] cs ts h = refl
small_all (l ∷ ls) [] ts h = refl
small_all (l ∷ ls) (c ∷ cs) ts h =
    ap₂ (λ (i : ℕ) (b : Bool). (not (c =? 0) || i ≤? 65535) && b) (length-take-le l ts (omega arith)) (small_all ls cs (drop l ts) (simp length-drop (omega arith)))
    ∙ go (c =? 0) (l ≤? 65535) (all_small_lem ls cs)
  where
    go : (a b x : Bool) → ((not a || b) && x) ≡ (when (when a then b else true) then x else false)
    go true true x = refl
    go true false x = refl
    go false b x = refl

-- a test, and the test that refuses
leb-not : (m n : ℕ) → leb m n ≡ not (ltb n m)
leb-not m n = go (ltb n m) refl
  where
    go : (b : Bool) → ltb n m ≡ b → leb m n ≡ not b
    go true e = lt-leb m n (ltb-true n m e)
    go false e = le-leb m n (ltb-false n m e)

leb-min : (n a b : ℕ) → leb n (min a b) ≡ (not (ltb a n) && not (ltb b n))
leb-min n a b = go (ltb a n) (ltb b n) refl refl
  where
    go : (x y : Bool) → ltb a n ≡ x → ltb b n ≡ y → leb n (min a b) ≡ (not x && not y)
    go true y e f = lt-leb n (min a b) (omega (arith, ltb-true a n e))
    go false true e f = lt-leb n (min a b) (omega (arith, ltb-true b n f))
    go false false e f = le-leb n (min a b) (omega (arith, ltb-false a n e, ltb-false b n f))

-- 01's tests in one row, and the code's in its order
sound-tests : (a b c x e f : Bool) → ((not a && not b) && not c && x && f && e) ≡ (when (when a then false else when b then false else when c then false else x) then (when e then f else false) else false)
sound-tests true b c x e f = refl
sound-tests false true c x e f = refl
sound-tests false false true x e f = refl
sound-tests false false false false e f = refl
sound-tests false false false true true true = refl
sound-tests false false false true true false = refl
sound-tests false false false true false true = refl
sound-tests false false false true false false = refl

-- a later test need only agree where the test before it holds
guard : (a f x y : Bool) → (f ≡ true → x ≡ y) → (a && f && x) ≡ (a && f && y)
guard true true x y h = h refl
guard true false x y h = refl
guard false f x y h = refl

pub sound-same : (n page : ℕ) (w : Rooms) → sound_rooms n page w ≡ sound_b n page w
unfolding sound_rooms fits_b
sound-same n page w =
    let ls : List ℕ = take n w.lengths in
    let cs : List ℕ = take n w.counts in
    let f : Bool = leb (total ls) (length w.text) in
    let fine : Bool = leb page 2147483647 in
    let small : Bool = all (λ (e : Entry). not (free e) || length e.text ≤? 65535) (cut ls cs w.text) in
    guard (leb n (entry_room_lem w) && leb n 16777215 && fine) f small (all_small_lem ls cs)
    (λ e. small_all ls cs w.text (leb-true (total ls) (length w.text) e))
    ∙ ap₂ (λ (x y : Bool). x && y && fine && f && all_small_lem ls cs) (leb-min n (length w.lengths) (length w.counts)) (leb-not n 16777215)
    ∙ sound-tests (ltb (length w.lengths) n) (ltb (length w.counts) n) (ltb 16777215 n) fine (all_small_lem ls cs) f

-- ---- what the judge's tests say

pub false_true : ◌≡◌ {A = Bool} false true → ⊥
false_true q = let y : ◌≡◌ {A = ℕ} 0 1 = cc in omega arith

-- a refusing test did not fire, and what follows it holds
pub not_first : (b x : Bool) → (when b then false else x) ≡ true → (b ≡ false) × (x ≡ true)
not_first true x e = absurd (false_true e)
not_first false x e = (refl, e)

pub then_second : (b x : Bool) → (when b then x else false) ≡ true → (b ≡ true) × (x ≡ true)
then_second true x e = (refl, e)
then_second false x e = absurd (false_true e)

pub record Few (n page : ℕ) (ls cs : List ℕ) : Type 0 where
  pub lengths : n ≤ length ls
  pub counts : n ≤ length cs
  pub few : n ≤ 16777215
  pub codepage : page ≤ 2147483647

pub fits_few : (n page : ℕ) (ls cs : List ℕ) → fits_b n page ls cs ≡ true → Few n page ls cs
unfolding fits_b
fits_few n page ls cs e =
    let x₂ : Bool = leb page 2147483647 in
    let x₁ : Bool = when ltb 16777215 n then false else x₂ in
    let a = not_first (ltb (length ls) n) (when ltb (length cs) n then false else x₁) e in
    let b = not_first (ltb (length cs) n) x₁ a.1 in
    let c = not_first (ltb 16777215 n) x₂ b.1 in
    record { lengths = ltb-false _ _ a.0; counts = ltb-false _ _ b.0; few = ltb-false _ _ c.0; codepage = leb-true _ _ c.1 }

-- ---- the judgement, test by test

pub judge_size : {A : Type 0} (n page : ℕ) (w : Rooms) (a : Answer A) → 268435455 < length w.text → refused 22 nowhere ≡ on_sound_rooms n page w a
judge_size n page w a h = simp (lt-ltb 268435455 (length w.text) h)

-- first the entries, then the bytes that they use
module _ {A : Type 0} (n page : ℕ) (w : Rooms) (f : ℕ × Rooms × ℕ → Answer A) where
  abbrev Found : ℕ × Rooms → Answer A
  Found x = on_given (used_of x.0 x.1) (λ (u : ℕ). let y : ℕ × Rooms × ℕ = (x.0, x.1, u) in f y)

  by_entries : on_given (entries_answer n page w) Found ≡ on_sound_rooms n page w (f (n, w, total (take n w.lengths)))
  by_entries =
      go (max_bytes <? length w.text) (fits_b n page w.lengths w.counts)
      ∙ ap (λ (b : Bool). when max_bytes <? length w.text then refused 22 nowhere else when not b then refused 24 nowhere else f Whole) (sym (sound-same n page w))
    where
      Whole : ℕ × Rooms × ℕ
      Whole = (n, w, total (take n w.lengths))

      Here : Answer (ℕ × Rooms)
      Here = gives (n, w)

      Sums : Bool
      Sums = sums_b n w.lengths w.counts (length w.text)

      used : (z : Bool) → on_given (when z then gives (total (take n w.lengths)) else refused 24 nowhere) (λ (u : ℕ). let y : ℕ × Rooms × ℕ = (n, w, u) in f y)
          ≡ (when not z then refused 24 nowhere else f Whole)
      used true = refl
      used false = refl

      go : (x y : Bool)
          → on_given (when x then refused 22 nowhere else when not y then refused 24 nowhere else Here) Found
          ≡ (when x then refused 22 nowhere else when not (when y then Sums else false) then refused 24 nowhere else f Whole)
      go true y = refl
      go false false = refl
      go false true = used Sums

  -- refused entries, refused bytes, and what follows where neither are
  pub entries-refused : {k : ℕ} {at : Place} → refused k at ≡ entries_answer n page w → refused k at ≡ on_sound_rooms n page w (f (n, w, total (take n w.lengths)))
  entries-refused e = ap (λ (a : Answer (ℕ × Rooms)). on_given a Found) e ∙ by_entries

  module _ (x : ℕ × Rooms) (e : gives x ≡ entries_answer n page w) where
    used-next : {b : Answer ℕ} → b ≡ used_of x.0 x.1
        → on_given b (λ (u : ℕ). let y : ℕ × Rooms × ℕ = (x.0, x.1, u) in f y) ≡ on_sound_rooms n page w (f (n, w, total (take n w.lengths)))
    used-next g =
        ap (λ (b : Answer ℕ). on_given b (λ (u : ℕ). let y : ℕ × Rooms × ℕ = (x.0, x.1, u) in f y)) g ∙ ap (λ (a : Answer (ℕ × Rooms)). on_given a Found) e ∙ by_entries

    pub used-refused : {k : ℕ} {at : Place} → refused k at ≡ used_of x.0 x.1 → refused k at ≡ on_sound_rooms n page w (f (n, w, total (take n w.lengths)))
    used-refused g = used-next g

    pub used-given : (u : ℕ) → gives u ≡ used_of x.0 x.1 → f (x.0, x.1, u) ≡ on_sound_rooms n page w (f (n, w, total (take n w.lengths)))
    used-given u g = used-next g

-- what is given to a call that judges first
pub on-judged : {A B : Type 0} (n page : ℕ) (w : Rooms) (b : B) (more : B → Answer A)
    → on_given (on_sound_rooms n page w (gives b)) more ≡ on_sound_rooms n page w (more b)
on-judged {A} n page w b more = go (max_bytes <? length w.text) (sound_rooms n page w)
  where
    go : (x y : Bool) → on_given (when x then refused 22 nowhere else when not y then refused 24 nowhere else gives b) more
        ≡ (when x then refused 22 nowhere else when not y then refused 24 nowhere else more b)
    go true y = refl
    go false false = refl
    go false true = refl

-- what the bytes in use say
pub used-fit : (n : ℕ) (w : Rooms) {u : ℕ} → gives u ≡ used_of n w → (u ≡ total (take n w.lengths)) × (u ≤ length w.text)
used-fit n w {u} e = go (all_small_lem (take n w.lengths) (take n w.counts)) (leb (total (take n w.lengths)) (length w.text)) refl e
  where
    go : (a b : Bool) → leb (total (take n w.lengths)) (length w.text) ≡ b
        → gives u ≡ (when (when a then b else false) then gives (total (take n w.lengths)) else refused 24 nowhere) → (u ≡ total (take n w.lengths)) × (u ≤ length w.text)
    go true true f q = let g : u ≡ total (take n w.lengths) = cc in (g, omega (arith, leb-true _ _ f))
    go true false f q = absurd (refused-gives (sym q))
    go false b f q = absurd (refused-gives (sym q))

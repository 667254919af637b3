-- Laws of the entries of a pool stream that is read.
use mathlib.Core.Path.{◌≡◌, refl, sym, ap, ap₂, ◌∙◌}
use Prim.Native.Nat.{ℕ, zero, suc, ◌+◌, ◌-◌, ◌≤◌, ◌<◌}
use native.Mathlib.Nat.{add-zero, add_assoc}
use native.Mathlib.Omega.{arith}
use mathlib.Core.Bool.{Bool, true, false, ◌&&◌}
use mathlib.Core.List.{List, [], ◌∷◌}
use lib.ListN.{length, get_or, drop}
use lib.Seq.{drop-cons, drop-drop}
use lib.Dec.{ltb, eqb}
use borrow.Author.Tests.{lt-ltb, le-ltb, ltb-false, eq-eqb, ne_eqb}
use Rattle.common.specs.Choice.{when◌then◌else◌}
use Rattle.common.specs.Lists.{total}
use Rattle.common.specs.Answers.{Answer, gives, refused, nowhere, on_given}
use Rattle.common.proofs.Bools.{clash}
use Rattle.common.proofs.Outcomes.{refused-gives}
use Rattle.little_endian.specs.Numbers.{number_at}
use Rattle.pool_stream.specs.Entries.{Found, one, cut, ends, entry_in, with_entry, on_found, entries_in, pool_entries_lem}
use Rattle.pool_stream.specs.inner.Found.{found_as}
use Rattle.pool_stream.specs.Plan.{sizes_of}
use Rattle.pool_stream.specs.inner.Sizes.{or_none}
use Rattle.pool_stream.specs.declared.entry.PoolEntry.{PoolEntry}
use Rattle.pool_stream.specs.declared.entry.PoolEntry.TheVariants.{One, Cut, End}

-- ---- one entry

-- the entry at the front, by its four tests
abbrev By : List ℕ → Bool → Bool → Bool → Bool → Found
By s a b wide d =
    when a then ends (length s) else when b then cut
    else when wide then (when d then cut else one (number_at 4 s 4) (number_at 2 s 2) true 8)
    else one (number_at 2 s 0) (number_at 2 s 2) false 4

module _ (s : List ℕ) where
  abbrev Wide : Bool
  Wide = eqb (number_at 2 s 0) 0 && ltb 0 (number_at 2 s 2)

  pub found_end : length s < 2 → ends (length s) ≡ entry_in s
  found_end h = let f : ltb (length s) 2 ≡ true = lt-ltb (length s) 2 h in simp f

  pub found_cut : 2 ≤ length s → length s < 4 → cut ≡ entry_in s
  found_cut h h' =
      let f : ltb (length s) 2 ≡ false = le-ltb (length s) 2 h in
      let g : ltb (length s) 4 ≡ true = lt-ltb (length s) 4 h' in
      simp (f, g)

  module _ (h : 4 ≤ length s) where
    passed : entry_in s ≡ By s false false Wide (ltb (length s) 8)
    passed =
        ap₂ (λ (a b : Bool). By s a b Wide (ltb (length s) 8)) (le-ltb (length s) 2 (omega arith)) (le-ltb (length s) 4 h)

    module _ (l c : ℕ) (el : l ≡ number_at 2 s 0) (ec : c ≡ number_at 2 s 2) where
      narrow : Wide ≡ false → one l c false 4 ≡ entry_in s
      narrow e = ap₂ (λ (x y : ℕ). one x y false 4) el ec ∙ sym (passed ∙ ap (λ (b : Bool). By s false false b (ltb (length s) 8)) e)

      pub found_length : (l ≡ 0 → ⊥) → one l c false 4 ≡ entry_in s
      found_length z = narrow (ap (λ (b : Bool). b && ltb 0 (number_at 2 s 2)) (ne_eqb (number_at 2 s 0) 0 (λ q. z (el ∙ q))))

      pub found_free : l ≡ 0 → c ≡ 0 → one l c false 4 ≡ entry_in s
      found_free z z' = narrow (ap₂ (λ (a b : Bool). a && b) (eq-eqb (number_at 2 s 0) 0 (sym el ∙ z)) (le-ltb 0 (number_at 2 s 2) (omega arith)))

      module _ (z : l ≡ 0) (z' : c ≡ 0 → ⊥) where
        wide_is : Wide ≡ true
        wide_is = ap₂ (λ (a b : Bool). a && b) (eq-eqb (number_at 2 s 0) 0 (sym el ∙ z)) (lt-ltb 0 (number_at 2 s 2) (omega arith))

        pub found_wide_cut : length s < 8 → cut ≡ entry_in s
        found_wide_cut h' = sym (passed ∙ ap₂ (λ (a b : Bool). By s false false a b) wide_is (lt-ltb (length s) 8 h'))

        pub found_wide : 8 ≤ length s → (x : ℕ) → x ≡ number_at 4 s 4 → one x c true 8 ≡ entry_in s
        found_wide h' x ex =
            ap₂ (λ (a b : ℕ). one a b true 8) ex ec ∙ sym (passed ∙ ap₂ (λ (a b : Bool). By s false false a b) wide_is (le-ltb (length s) 8 h'))

abbrev size_by : Found → ℕ
size_by (one l c w n) = n
size_by cut = 0
size_by (ends k) = 0

-- an entry takes some of the bytes
pub found_size : (s : List ℕ) (l c : ℕ) (w : Bool) (n : ℕ) → entry_in s ≡ one l c w n → (4 ≤ n) × (n ≤ length s)
found_size s l c w n e = go (ltb (length s) 2) (ltb (length s) 4) (Wide s) (ltb (length s) 8) refl refl e
  where
    go : (p q r t : Bool) → ltb (length s) 4 ≡ q → ltb (length s) 8 ≡ t → By s p q r t ≡ one l c w n → (4 ≤ n) × (n ≤ length s)
    go true q r t f g h = clash (cc)
    go false true r t f g h = clash (cc)
    go false false true true f g h = clash (cc)
    go false false true false f g h = omega (arith, ap size_by h, ltb-false (length s) 8 g)
    go false false false t f g h = omega (arith, ap size_by h, ltb-false (length s) 4 f)

-- ---- how many, and how long

abbrev pub more : ℕ → ℕ → Answer (ℕ × ℕ) → Answer (ℕ × ℕ)
more n t a = on_given a (λ x. gives (n + x.0, t + x.1))

pub more_none : (a : Answer (ℕ × ℕ)) → a ≡ more 0 0 a
more_none (refused n at) = refl
more_none (gives x) = let p : x.0 ≡ 0 + x.0 = omega arith in let q : x.1 ≡ 0 + x.1 = omega arith in ap₂ (λ (a b : ℕ). gives (a, b)) p q

more_more : (n t l : ℕ) (a : Answer (ℕ × ℕ)) → more n t (more 1 l a) ≡ more (n + 1) (t + l) a
more_more n t l (refused k at) = refl
more_more n t l (gives x) = ap₂ (λ (a b : ℕ). gives (a, b)) (sym (add_assoc n 1 x.0)) (sym (add_assoc t l x.1))

size-with : (l c : ℕ) (a : Answer (List ℕ × List ℕ)) → sizes_of (with_entry l c a) ≡ more 1 l (sizes_of a)
size-with l c (refused k at) = refl
size-with l c (gives x) = let p : suc (length x.0) ≡ 1 + length x.0 = omega arith in ap (λ (i : ℕ). gives (i, l + total x.0)) p

module _ (s : List ℕ) (n t at : ℕ) (h : n < length s) (inv : sizes_of (pool_entries_lem s) ≡ more n t (sizes_of (entries_in (length s - n) (drop at s)))) where
  abbrev Left : ℕ → Answer (List ℕ × List ℕ)
  Left size = entries_in (length s - (n + 1)) (drop size (drop at s))

  stepped : (x : Found) → entry_in (drop at s) ≡ x → sizes_of (pool_entries_lem s) ≡ more n t (sizes_of (on_found x Left))
  stepped x e =
      let f : length s - n ≡ suc (length s - (n + 1)) = omega arith in
      inv ∙ ap (λ (k : ℕ). more n t (sizes_of (entries_in k (drop at s)))) f ∙ ap (λ (y : Found). more n t (sizes_of (on_found y Left))) e

  pub size-end : (k : ℕ) → entry_in (drop at s) ≡ ends k → gives (n, t) ≡ sizes_of (pool_entries_lem s)
  size-end k e = sym (stepped (ends k) e ∙ ap₂ (λ (a b : ℕ). gives (a, b)) (add-zero n) (add-zero t))

  pub size-cut : entry_in (drop at s) ≡ cut → refused 2 nowhere ≡ sizes_of (pool_entries_lem s)
  size-cut e = sym (stepped cut e)

  pub size-one : (l c : ℕ) (w : Bool) (k : ℕ) → entry_in (drop at s) ≡ one l c w k
      → sizes_of (pool_entries_lem s) ≡ more (n + 1) (t + l) (sizes_of (entries_in (length s - (n + 1)) (drop (at + k) s)))
  size-one l c w k e =
      stepped (one l c w k) e ∙ ap (more n t) (size-with l c (Left k)) ∙ more_more n t l (sizes_of (Left k))
      ∙ ap (λ (r : List ℕ). more (n + 1) (t + l) (sizes_of (entries_in (length s - (n + 1)) r))) (drop-drop k at s)

-- ---- the entries, one by one

-- the entry at i, and those that follow it
pub record OneMore (s : List ℕ) (f next : ℕ) (ls cs : List ℕ) (i l c : ℕ) : Type 0 where
  pub lens : l ≡ get_or ls i 0
  pub cnts : c ≡ get_or cs i 0
  pub rest : entries_in f (drop next s) ≡ gives (drop (suc i) ls, drop (suc i) cs)

abbrev head_d : List ℕ → ℕ
head_d [] = 0
head_d (x ∷ xs) = x

abbrev tail_d : List ℕ → List ℕ
tail_d [] = []
tail_d (x ∷ xs) = xs

module _ (s : List ℕ) (f at : ℕ) (ls cs : List ℕ) (i : ℕ) (hl : i < length ls) (hc : i < length cs)
    (e : entries_in (suc f) (drop at s) ≡ gives (drop i ls, drop i cs)) where
  abbrev After : ℕ → Answer (List ℕ × List ℕ)
  After size = entries_in f (drop size (drop at s))

  pub one_more : (l c : ℕ) (w : Bool) (k : ℕ) → entry_in (drop at s) ≡ one l c w k → OneMore s f (at + k) ls cs i l c
  one_more l c w k r = go (After k) refl
    where
      e' : ◌≡◌ {A = Answer (List ℕ × List ℕ)} (with_entry l c (After k)) (gives (get_or ls i 0 ∷ drop (suc i) ls, get_or cs i 0 ∷ drop (suc i) cs))
      e' = ap (λ (x : Found). on_found x After) (sym r) ∙ e ∙ ap₂ (λ (x y : List ℕ). gives (x, y)) (drop-cons ls i 0 hl) (drop-cons cs i 0 hc)

      go : (a : Answer (List ℕ × List ℕ)) → After k ≡ a → OneMore s f (at + k) ls cs i l c
      go (refused n p) q = absurd (refused-gives (ap (with_entry l c) (sym q) ∙ e'))
      go (gives x) q =
          let v : ◌≡◌ {A = Answer (List ℕ × List ℕ)} (gives (l ∷ x.0, c ∷ x.1)) (gives (get_or ls i 0 ∷ drop (suc i) ls, get_or cs i 0 ∷ drop (suc i) cs)) = ap (with_entry l c) (sym q) ∙ e' in
          record {
            lens = ap (λ (a : Answer (List ℕ × List ℕ)). head_d (or_none a).0) v;
            cnts = ap (λ (a : Answer (List ℕ × List ℕ)). head_d (or_none a).1) v;
            rest =
                ap (entries_in f) (sym (drop-drop k at s)) ∙ q
                ∙ ap₂ (λ (x y : List ℕ). gives (x, y)) (ap (λ (a : Answer (List ℕ × List ℕ)). tail_d (or_none a).0) v) (ap (λ (a : Answer (List ℕ × List ℕ)). tail_d (or_none a).1) v);
          }

  -- where an entry follows, one is there
  pub is_one : (x : PoolEntry) → found_as x ≡ entry_in (drop at s) → (l c : ℕ) × (w : Bool) × (k : ℕ) × (x ≡ One l c w k)
  is_one (One l c w k) r = (l, c, w, k, refl)
  is_one Cut r = absurd (refused-gives (ap (λ (x : Found). on_found x After) r ∙ e))
  is_one (End k) r =
      clash (cc (ap (λ (a : Answer (List ℕ × List ℕ)). (or_none a).0) (ap (λ (x : Found). on_found x After) r ∙ e) ∙ drop-cons ls i 0 hl))

-- as many counts as lengths
abbrev Even : Answer (List ℕ × List ℕ) → Type 0
Even a = length (or_none a).0 ≡ length (or_none a).1

even-with : (l c : ℕ) (a : Answer (List ℕ × List ℕ)) → Even a → Even (with_entry l c a)
even-with l c (refused n at) e = refl
even-with l c (gives x) e = ap suc e

pub even : (f : ℕ) (s : List ℕ) → Even (entries_in f s)
even zero s = refl
even (suc f) s = go (entry_in s) (λ k. even f (drop k s))
  where
    go : (x : Found) → ((k : ℕ) → Even (entries_in f (drop k s))) → Even (on_found x (λ k. entries_in f (drop k s)))
    go (one l c w k) h = even-with l c (entries_in f (drop k s)) (h k)
    go cut h = refl
    go (ends k) h = refl

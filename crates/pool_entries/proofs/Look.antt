-- Laws of the searches, entry by entry.
use Rattle.std.proofs.Common.{◌≡◌, ℕ, ◌+◌, ◌<◌, ◌≤◌, Bool, true, false, not, ◌&&◌, ◌||◌, ltb, List, length, get_or, take, drop, sym, refl, ap, ◌∙◌, subst, ap₂, ⊎_elim, arith, length-drop, length-take-le, le-ltb, lt-ltb, eq-eqb, ne_eqb}
use Rattle.common.specs.Choice.{when◌then◌else◌}
use Rattle.common.specs.Lists.{total}
use Rattle.common.proofs.Bools.{lt_or_le}
use Rattle.common.proofs.Sums.{total-in}
use Rattle.common.specs.Answers.{Answer, gives, refused, nowhere, on_given}
use Rattle.pool_entries.specs.Sound.{on_sound_rooms}
use Rattle.pool_entries.specs.Calls.{spot_at, choose_answer, sound_answer}
use Rattle.pool_entries.proofs.Sound.{on-judged}
use Rattle.pool_entries.specs.Entries.{Entry, entry, Rooms, first_entries, free}
use Rattle.pool_entries.specs.Choose.{equal, first_place, Chooser, first_free_or_equal, can_count_up_lem, equal_then_free_lem}
use Rattle.pool_entries.specs.inner.Fit.{Fit}
use Rattle.pool_entries.specs.inner.Look.{Counted, FreeAt, Others, SumTo, PassedBy, entry_at, NoneUp, UpAt, FoundIs}
use Rattle.pool_entries.proofs.Sums.{each-join, each_next, total-next}
use Rattle.pool_entries.proofs.Bytes.{same_length, up_other}
use Rattle.pool_entries.proofs.Entries.{length-entries, entry-at}
use Rattle.pool_entries.proofs.Places.{place_found, one_passes}

-- ---- lengths, one more

pub sum-next : (ls : List ℕ) (i s x : ℕ) → i < length ls → x ≡ get_or ls i 0 → x ≤ 4294967295 → SumTo ls i s → SumTo ls (i + 1) (s + x)
sum-next ls i s x h e g a = record { is = omega (arith, a.is, total-next ls i (i + 1) refl h); few = omega (arith, a.few) }

-- none is passed by, or one more
pub pass_none : {ls : List ℕ} {size from to s : ℕ} → from ≤ to → SumTo ls from s → PassedBy ls size from to from s
pass_none h a = record { after = omega arith; within = h; others = λ k x y. absurd (omega arith); sum = a }

pub pass_next : {ls : List ℕ} {size from to i s x k r : ℕ} → PassedBy ls size from to i s → x ≡ get_or ls i 0 → (x ≡ size → ⊥)
    → i < to → to ≤ length ls → x ≤ 4294967295 → k ≡ i + 1 → r ≡ s + x → PassedBy ls size from to k r
pass_next {ls} {size} {from} {to} {i} {s} {x} {k} {r} a e d h g b p q = record {
  after = omega (arith, a.after);
  within = omega arith;
  others = λ j u v. each_next a.others (λ z. d (e ∙ z)) j u (omega arith);
  sum = record { is = omega (arith, a.sum.is, total-next ls i k p (omega arith)); few = omega (arith, a.sum.few) };
}

-- some, and then some more
pub pass_join : {ls : List ℕ} {size from to i s mid k r : ℕ} → PassedBy ls size from to i s → PassedBy ls size i mid k r → mid ≤ to → PassedBy ls size from to k r
pass_join a b h = record {
  after = omega (arith, a.after, b.after);
  within = omega (arith, b.within);
  others = each-join a.others b.others;
  sum = b.sum;
}

-- ---- an entry that can count up

neither_passes : (a b : Bool) → a ≡ false → (not a && b) ≡ false → (a || b) ≡ false
neither_passes true b e f = e
neither_passes false b e f = f

module _ (n : ℕ) (w : Rooms) (t : List ℕ) where
  -- an entry of another length cannot
  pub up_length : Fit n w → (i : ℕ) → i < n → (get_or w.lengths i 0 ≡ length t → ⊥) → can_count_up_lem t (entry_at w i) ≡ false
  up_length fit i h d =
      let l : ℕ = get_or w.lengths i 0 in
      let at : ℕ = total (take i w.lengths) in
      let u : List ℕ = take l (drop at w.text) in
      let in' = total-in w.lengths i n h fit.lengths in
      let room : l ≤ length (drop at w.text) = omega (arith, length-drop at w.text, fit.text) in
      let long : length u ≡ l = length-take-le l (drop at w.text) room in
      up_other t u (get_or w.counts i 0) (same_length u t (λ e. d (sym long ∙ e)))

  -- nor can those that were passed by their lengths
  pub up_passed : Fit n w → (from to : ℕ) → to ≤ n → Others w.lengths (length t) from to → NoneUp w t from to
  up_passed fit from to h o k a b = up_length fit k (omega arith) (o k a b)

  -- what was compared is the entry
  pub compared : (i s x : ℕ) (b : Bool) → i < n → x ≡ get_or w.lengths i 0 → x ≡ length t → s ≡ total (take i w.lengths)
      → (s + length t ≤ length w.text → b ≡ can_count_up_lem t (entry (take (length t) (drop s w.text)) (get_or w.counts i 0)))
      → Fit n w → can_count_up_lem t (entry_at w i) ≡ b
  compared i s x b h e f g c fit =
      let in' = total-in w.lengths i n h fit.lengths in
      let l : length t ≡ get_or w.lengths i 0 = omega arith in
      sym (c (omega (arith, fit.text)) ∙ ap₂ (λ (k a : ℕ). can_count_up_lem t (entry (take k (drop a w.text)) (get_or w.counts i 0))) l g)

  -- ---- the places that are chosen

  -- a place by the rooms is one of the entries
  module _ (f : Entry → Bool) (fit : Fit n w) where
    pub first-at : (k : ℕ) → k ≤ n → ((j : ℕ) → j < k → f (entry_at w j) ≡ false) → (k < n → f (entry_at w k) ≡ true) → first_place f (first_entries n w) ≡ k
    first-at k h b c =
        place_found f (first_entries n w) k (omega (arith, length-entries n w fit)) (λ j q. ap f (entry-at n w fit j (omega arith)) ∙ b j q)
        (λ q. let r : k < n = omega (arith, length-entries n w fit) in ap f (entry-at n w fit k r) ∙ c r)

  is_free : (j : ℕ) → get_or w.counts j 0 ≡ 0 → free (entry_at w j) ≡ true
  is_free j e = eq-eqb _ _ e

  not_free : (j : ℕ) → 0 < get_or w.counts j 0 → free (entry_at w j) ≡ false
  not_free j c = ne_eqb (get_or w.counts j 0) 0 (λ (e : get_or w.counts j 0 ≡ 0). omega arith)

  -- 01's choice comes after entries none of which is free or can count up
  old_at : Fit n w → (k : ℕ) → k ≤ n → Counted w.counts 0 k → NoneUp w t 0 k → (k < n → (free (entry_at w k) || equal t (entry_at w k)) ≡ true) → k ≡ first_free_or_equal t (first_entries n w)
  old_at fit k h c v y =
      sym (first-at (λ (e : Entry). free e || equal t e) fit k h
      (λ j q. neither_passes (free (entry_at w j)) (equal t (entry_at w j)) (not_free j (c j (omega arith) q)) (v j (omega arith) q)) y)

  -- in the block i..to, of which f is the first free entry and k the first before it that can count up
  module _ (i to f k s : ℕ) (h : to ≤ n) (c : Counted w.counts 0 i) (v : Fit n w → NoneUp w t 0 i) (z : FreeAt w.counts i to f) (u : UpAt n w t i f k s) where
    counted : Counted w.counts 0 k
    counted = each-join c (λ j a b. z.counted j a (omega (arith, u.within)))

    none : Fit n w → NoneUp w t 0 k
    none fit = each-join (v fit) (u.before fit)

    suits : Fit n w → k < to → (free (entry_at w k) || equal t (entry_at w k)) ≡ true
    suits fit g =
        ⊎_elim (λ q. one_passes (free (entry_at w k)) (equal t (entry_at w k)) (u.here q fit))
        (λ q. let e : k ≡ f = omega (arith, u.within) in ap (λ (b : Bool). b || equal t (entry_at w k)) (is_free k (ap (λ (j : ℕ). get_or w.counts j 0) e ∙ z.free (omega arith))))
        (lt_or_le k f)

    pub found_here : k < to → FoundIs n w t k s
    found_here g = record { within = omega arith; sum = u.sum; counted = counted; chosen = λ fit. old_at fit k (omega arith) counted (none fit) (λ q. suits fit g) }

    -- the block is passed by
    abbrev Passed : ℕ → Type 0
    Passed j = SumTo w.lengths j s × Counted w.counts 0 j × (Fit n w → NoneUp w t 0 j)

    pub found_later : to ≤ k → Passed to
    found_later g = let e : k ≡ to = omega (arith, u.within, z.within) in subst Passed e (u.sum, counted, none)

  pub found_none : (k s : ℕ) → k ≡ n → SumTo w.lengths k s → Counted w.counts 0 k → (Fit n w → NoneUp w t 0 k) → FoundIs n w t k s
  found_none k s e a c v = record { within = omega arith; sum = a; counted = c; chosen = λ fit. old_at fit k (omega arith) c (v fit) (λ q. absurd (omega arith)) }

  -- ---- the default choice

  module _ (fit : Fit n w) (k s : ℕ) (u : UpAt n w t 0 n k s) where
    by_place : (b : Bool) → ltb k n ≡ b → equal_then_free_lem t (first_entries n w) ≡ (when b then k else first_place free (first_entries n w))
    by_place b e =
        ap₂ (λ (x y : ℕ). when ltb x y then x else first_place free (first_entries n w))
        (first-at (can_count_up_lem t) fit k u.within (λ j q. u.before fit j (omega arith) q) (λ q. u.here q fit)) (length-entries n w fit)
        ∙ ap (λ (x : Bool). when x then k else first_place free (first_entries n w)) e

    pub prefers_up : k < n → k ≡ equal_then_free_lem t (first_entries n w)
    prefers_up h = sym (by_place true (lt-ltb k n h))

    pub prefers_free : (f : ℕ) → n ≤ k → FreeAt w.counts 0 n f → f ≡ equal_then_free_lem t (first_entries n w)
    prefers_free f h z =
        sym (by_place false (le-ltb k n h)
        ∙ first-at free fit f z.within (λ j q. not_free j (z.counted j (omega arith) q)) (λ q. is_free f (z.free q)))

-- ---- the answer, with the text's size judged first

-- what a take is given by this choice of the entries of a sound state
abbrev pub chosen_by : Chooser → List ℕ → ℕ × Rooms × ℕ → Answer (ℕ × ℕ × ℕ)
chosen_by choose t y = let k : ℕ = choose t (first_entries y.0 y.1) in gives (k, total (take k y.1.lengths), y.2)

module _ (choose : Chooser) (n : ℕ) (w : Rooms) (t : List ℕ) where
  pub choose_on : (page : ℕ) → length t ≤ 268435455 → {x : Answer (ℕ × ℕ × ℕ)} → x ≡ on_sound_rooms n page w (gives (spot_at n w (choose t (first_entries n w))))
      → x ≡ choose_answer choose n page w t
  choose_on page h e = e ∙ sym (ap (λ (b : Bool). when b then refused 22 nowhere else on_sound_rooms n page w (gives (spot_at n w (choose t (first_entries n w))))) (le-ltb 268435455 (length t) h))

  -- what was found in a state that fits
  pub spot_found : (k s u : ℕ) → k ≡ choose t (first_entries n w) → s ≡ total (take k w.lengths) → gives (k, s, u) ≡ chosen_by choose t (n, w, u)
  spot_found k s u f b = ap (λ (x : ℕ). gives (k, x, u)) b ∙ ap (λ (j : ℕ). gives (j, total (take j w.lengths), u)) f

  -- and by what the judge answers
  pub chosen_judged : (page : ℕ) {x : Answer (ℕ × Rooms × ℕ)} → x ≡ sound_answer n page w
      → on_given x (chosen_by choose t) ≡ on_sound_rooms n page w (gives (spot_at n w (choose t (first_entries n w))))
  chosen_judged page e =
      let y : ℕ × Rooms × ℕ = (n, w, total (take n w.lengths)) in
      ap (λ (a : Answer (ℕ × Rooms × ℕ)). on_given a (chosen_by choose t)) e ∙ on-judged n page w y (chosen_by choose t)

-- Demand 3: each call's outcome taken apart, its step of the law, and then any list of calls.
use mathlib.Core.Path.{◌≡◌, refl, sym, ap, ap₂, subst, ◌∙◌}
use Prim.Native.Nat.{ℕ, ◌+◌, ◌-◌, ◌≤◌, ◌<◌}
use native.Mathlib.Numerals.{add-one}
use native.Mathlib.Omega.{arith}
use mathlib.Core.Bool.{Bool, true, false, not, ◌&&◌, ◌||◌}
use mathlib.Core.List.{List, [], ◌∷◌, ◌++◌, map}
use lib.ListN.{length, get_or, set, length-set}
use lib.IntN.{ℤ, pos, negsuc, nat_abs}
use lib.Dec.{leb, ltb, eqb, eqb-suc-suc}
use borrow.Author.Tests.{leb-true, leb-false, ltb-true, ltb-false, le-ltb, ne_eqb, not-false}
use Rattle.common.specs.Choice.{when◌then◌else◌}
use Rattle.common.specs.Answers.{Answer, gives, refused, Place, nowhere, on_given, outcome}
use Rattle.stringpool.specs.Pool.{Entry, Rooms, entries_of, put_back, texts, entry_room_lem, sound, on_sound}
use Rattle.stringpool.specs.Refs.{on_reference}
use Rattle.stringpool.specs.Take.{same_bytes, Chooser, Legal, taken_at_lem, counting, take_at, take_answer}
use Rattle.stringpool.specs.Drop.{lessened, drop_at_lem, drop_answer}
use Rattle.stringpool.specs.Show.{or_empty}
use Rattle.stringpool_promises.specs.Promises.{State, Call, take-of, drop_of, AllLegal, left, after, ran, SoundState, entries, shows, count_or0, count, accepted, same_number, answers, one, tally, sum_for, took, gave_up, took_ref, gave_up_ref, StaysCounted, CountsKept, StaysSound, Op, takes, takes_first, drops, as_call, CallsKept, KeptFromNew, KeptFromLoad, ChoosesLegally}
use Rattle.pool_entries.proofs.Places.{first-free-or-equal, equal-then_free}
use Rattle.stringpool.specs.inner.Entries.{none}
use Rattle.stringpool.specs.declared.pool.StringPool.{StringPool}
use Rattle.stringpool.proofs.Entries.{length-entries, length-texts_at, length_at}
use Rattle.common.proofs.Sums.{total-in}
use Rattle.stringpool_promises.proofs.Lists.{entries-put}
use Rattle.common.proofs.Bools.{neither}
use Rattle.common.proofs.Outcomes.{Case, no, yes, test}
use Rattle.order.specs.Order.{add_fits_lem, text_fits, drop_fits_lem}
use Rattle.order.proofs.Laws.{ordered, add-fits, text-fits, drop-fits}
use Rattle.stringpool_promises.proofs.Sounds.{SoundFit, sound-fits, fit-sound}
use Rattle.stringpool_promises.proofs.Steps.{At, take-sum, take-length, take_count, take-text, drop-sum, drop-count, drop-text, lessened-length}
use Rattle.stringpool_promises.proofs.Kept.{small-taken, small-dropped, small-entries, put_state}

-- ---- an answer taken apart

-- both tests of a sound pool
pub on-sound : {A : Type 0} {x : Answer A} {y : A} {P : Type 0} (p : StringPool) (w : Rooms)
    → (length w.text ≤ 268435455 → sound p w ≡ true → Case x y P) → Case (on_sound p w x) y P
on-sound p w f = test _ 22 nowhere (λ a. test _ 24 nowhere (λ b. f (ltb-false _ _ a) (not-false (sound p w) b)))

-- what is known after an accepted take at the place k
pub record Took (p : StringPool) (w : Rooms) (t : List ℕ) (k : ℕ) : Type 0 where
  pub size : length w.text ≤ 268435455
  pub fit : SoundFit p w
  pub below : k < 16777215
  pub few : length (taken_at_lem t k (entries_of p w)) ≤ 16777215
  pub fits : length (texts (taken_at_lem t k (entries_of p w))) ≤ length w.text

-- the order of a take, where a new entry is wanted or not
abbrev Fitting : Chooser → StringPool → Rooms → List ℕ → Bool → Answer (Unit {0})
Fitting choose p w t new =
    let es = entries_of p w in
    let after = length (texts (taken_at_lem t (choose t es) es)) in
    when new then add_fits_lem p.long_string_refs (length es) (entry_room_lem w) after (length w.text) else text_fits after (length w.text)

pub take-case : (choose : Chooser) (p : StringPool) (w : Rooms) (t : List ℕ) → choose t (entries_of p w) ≤ length (entries_of p w)
    → Case (take_answer choose p w t)
    ((pos (choose t (entries_of p w) + 1), counting p (length (taken_at_lem t (choose t (entries_of p w)) (entries_of p w)))), put_back p w (taken_at_lem t (choose t (entries_of p w)) (entries_of p w)))
    (Took p w t (choose t (entries_of p w)))
take-case choose p w t le =
    let es : List Entry = entries_of p w in
    let k : ℕ = choose t es in
    test {x = on_sound p w (take_at p w t k)} (ltb 268435455 (length t)) 22 nowhere (λ _. on-sound {x = take_at p w t k} p w (λ size s. ordered (Fitting choose p w t (leb (length es) k)) (λ a.
    let f : SoundFit p w = sound-fits p w s in
    let n : length es ≡ p.num_strings = length-entries p.num_strings w f.fit in
    let g = fitting (leb (length es) k) refl a in
    yes refl (record {
      size = size;
      fit = f;
      below = below (leb (length es) k) refl g.0 (omega (arith, n, f.few));
      few = take-length t es k 16777215 (omega (arith, n, f.few)) g.0;
      fits = g.1;
    }))))
  where
    fitting : (b : Bool) → leb (length (entries_of p w)) (choose t (entries_of p w)) ≡ b
        → Fitting choose p w t b ≡ gives tt
        → (length (entries_of p w) ≤ choose t (entries_of p w) → length (entries_of p w) < 16777215)
        × (length (texts (taken_at_lem t (choose t (entries_of p w)) (entries_of p w))) ≤ length w.text)
    fitting true h e =
        let g = add-fits p.long_string_refs (length (entries_of p w)) (entry_room_lem w) (length (texts (taken_at_lem t (choose t (entries_of p w)) (entries_of p w)))) (length w.text) e in
        (λ _. g.0, g.2)
    fitting false h e =
        (λ q. absurd (omega (arith, q, leb-false (length (entries_of p w)) (choose t (entries_of p w)) h)), text-fits (length (texts (taken_at_lem t (choose t (entries_of p w)) (entries_of p w)))) (length w.text) e)

    below : (b : Bool) → leb (length (entries_of p w)) (choose t (entries_of p w)) ≡ b
        → (length (entries_of p w) ≤ choose t (entries_of p w) → length (entries_of p w) < 16777215) → length (entries_of p w) ≤ 16777215 → choose t (entries_of p w) < 16777215
    below true e new m = omega (arith, le, new (leb-true (length (entries_of p w)) (choose t (entries_of p w)) e))
    below false e new m = omega (arith, m, leb-false (length (entries_of p w)) (choose t (entries_of p w)) e)

-- the place of a number, and what is known after an accepted drop
abbrev pub place_of : ℤ → ℕ
place_of (pos n) = n - 1
place_of (negsuc n) = 0

pub record DidDrop (p : StringPool) (w : Rooms) (r : ℤ) : Type 0 where
  pub size : length w.text ≤ 268435455
  pub fit : SoundFit p w
  pub number : r ≡ pos (place_of r + 1)
  pub inside : place_of r < length (entries_of p w)
  pub counted : 0 < (get_or (entries_of p w) (place_of r) none).count

abbrev lessened_at : StringPool → Rooms → ℕ → List Entry
lessened_at p w k = set (entries_of p w) k (lessened (get_or (entries_of p w) k none))

-- a test that refuses, and then on with what was given
test_given : {A B : Type 0} {y : A} {P : Type 0} (b : Bool) (n : ℕ) (at : Place) (v : B) (more : B → Answer A) → (b ≡ false → Case (more v) y P)
    → Case (on_given (when b then refused n at else gives v) more) y P
test_given true n at v more f = no n at refl
test_given false n at v more f = f refl

pub drop-case : (p : StringPool) (w : Rooms) (r : ℤ) → Case (drop_answer p w r) (p, put_back p w (lessened_at p w (place_of r))) (DidDrop p w r)
drop-case p w (negsuc n) = on-sound p w (λ size s. no 8 nowhere refl)
drop-case p w (pos n) =
    on-sound p w (λ size s. test_given (ltb n 1 || ltb 16777215 n) 8 nowhere (pos n) (λ m. drop_at_lem p w (nat_abs m - 1)) (λ a. ordered (drop_fits_lem (length (entries_of p w)) (n - 1) (get_or (entries_of p w) (n - 1) none).count) (λ b.
    yes refl (record {
      size = size;
      fit = sound-fits p w s;
      number = ap pos (let g : 1 ≤ n = ltb-false n 1 (neither (ltb n 1) (ltb 16777215 n) a).0 in omega arith);
      inside = (drop-fits (length (entries_of p w)) (n - 1) (get_or (entries_of p w) (n - 1) none).count b).0;
      counted = (drop-fits (length (entries_of p w)) (n - 1) (get_or (entries_of p w) (n - 1) none).count b).1;
    }))))

-- ---- the state after a call

abbrev taken_to : State → Answer ((ℤ × StringPool) × Rooms) → State
taken_to s x = left (λ (y : ℤ × StringPool). y.1) s (outcome s.rooms x)

abbrev dropped_to : State → Answer (StringPool × Rooms) → State
dropped_to s x = left (λ (y : StringPool). y) s (outcome s.rooms x)

abbrev LegalCall : Call → Type 0
LegalCall (take-of choose t) = Legal choose
LegalCall (drop_of r) = Unit {0}

module _ (s : State) (choose : Chooser) (t : List ℕ) where
  abbrev k : ℕ
  k = choose t (entries s)

  abbrev es' : List Entry
  es' = taken_at_lem t k (entries s)

  abbrev TakeCase : Type 0
  TakeCase = Case (take_answer choose s.pool s.rooms t) ((pos (k + 1), counting s.pool (length es')), put_back s.pool s.rooms es') (Took s.pool s.rooms t k)

  take-made : take_answer choose s.pool s.rooms t ≡ gives ((pos (k + 1), counting s.pool (length es')), put_back s.pool s.rooms es')
      → entries (after s (take-of choose t)) ≡ es'
  take-made e = ap (λ (x : Answer ((ℤ × StringPool) × Rooms)). entries (taken_to s x)) e ∙ entries-put s.pool (length es') s.rooms es' refl

  -- an accepted take was on a sound state, and leaves one
  take-was : Took s.pool s.rooms t k → SoundState s
  take-was d = (d.size, fit-sound s.pool s.rooms d.fit)

  take-is : take_answer choose s.pool s.rooms t ≡ gives ((pos (k + 1), counting s.pool (length es')), put_back s.pool s.rooms es')
      → Took s.pool s.rooms t k → SoundState (after s (take-of choose t))
  take-is e d = subst (λ (x : Answer ((ℤ × StringPool) × Rooms)). SoundState (taken_to s x)) (sym e)
      (put_state (counting s.pool (length es')) s.pool s.rooms es' refl d.few d.fit.page d.fit.fit.text d.size d.fits
      (small-taken t k (entries s) (small-entries s.pool s.rooms d.fit)))

  take-sound : SoundState s → TakeCase → SoundState (after s (take-of choose t))
  take-sound h (no n at e) = subst (λ (x : Answer ((ℤ × StringPool) × Rooms)). SoundState (taken_to s x)) (sym e) h
  take-sound h (yes e d) = take-is e d

module _ (s : State) (r : ℤ) where
  abbrev es'' : List Entry
  es'' = lessened_at s.pool s.rooms (place_of r)

  abbrev DropCase : Type 0
  DropCase = Case (drop_answer s.pool s.rooms r) (s.pool, put_back s.pool s.rooms es'') (DidDrop s.pool s.rooms r)

  count_kept : DidDrop s.pool s.rooms r → s.pool.num_strings ≡ length es''
  count_kept d = sym (length-set (entries s) (place_of r) (lessened (get_or (entries s) (place_of r) none)) ∙ length-entries s.pool.num_strings s.rooms d.fit.fit)

  drop-made : DidDrop s.pool s.rooms r → drop_answer s.pool s.rooms r ≡ gives (s.pool, put_back s.pool s.rooms es'') → entries (after s (drop_of r)) ≡ es''
  drop-made d e = ap (λ (x : Answer (StringPool × Rooms)). entries (dropped_to s x)) e ∙ entries-put s.pool s.pool.num_strings s.rooms es'' (count_kept d)

  -- an accepted drop was on a sound state, and leaves one
  drop-was : DidDrop s.pool s.rooms r → SoundState s
  drop-was d = (d.size, fit-sound s.pool s.rooms d.fit)

  drop-is : drop_answer s.pool s.rooms r ≡ gives (s.pool, put_back s.pool s.rooms es'') → DidDrop s.pool s.rooms r → SoundState (after s (drop_of r))
  drop-is e d =
      let n : ℕ = s.pool.num_strings in
      let w : Rooms = s.rooms in
      let x : Entry = get_or (entries s) (place_of r) none in
      let hk : place_of r < n = omega (arith, d.inside, length-entries n w d.fit.fit) in
      let room : length (texts es'') ≤ length w.text =
      omega (
        arith,
        length-texts_at n w d.fit.fit (place_of r) hk (lessened x),
        lessened-length x,
        length_at n w d.fit.fit (place_of r) hk,
        total-in w.lengths (place_of r) n hk d.fit.fit.lengths,
        d.fit.fit.text,
      ) in
      subst (λ (y : Answer (StringPool × Rooms)). SoundState (dropped_to s y)) (sym e)
      (put_state s.pool s.pool w es'' (count_kept d) d.fit.few d.fit.page d.fit.fit.text d.size room
      (small-dropped (entries s) (place_of r) (small-entries s.pool w d.fit)))

  drop-sound : SoundState s → DropCase → SoundState (after s (drop_of r))
  drop-sound h (no n at e) = subst (λ (x : Answer (StringPool × Rooms)). SoundState (dropped_to s x)) (sym e) h
  drop-sound h (yes e d) = drop-is e d

at_place : (s : State) (choose : Chooser) (t : List ℕ) → Legal choose → At t (entries s) (choose t (entries s))
at_place s choose t l = record { within = (l t (entries s)).0; suits = (l t (entries s)).1 }

case-of : (s : State) (choose : Chooser) (t : List ℕ) → Legal choose → TakeCase s choose t
case-of s choose t l = take-case choose s.pool s.rooms t (l t (entries s)).0

-- a sound state stays sound
sound-step : (s : State) (c : Call) → LegalCall c → SoundState s → SoundState (after s c)
sound-step s (take-of choose t) l h = take-sound s choose t h (case-of s choose t l)
sound-step s (drop_of r) l h = drop-sound s r h (drop-case s.pool s.rooms r)

-- ---- what is shown in a sound state

pub on_sound-is : {A : Type 0} (s : State) → SoundState s → (a : Answer A) → on_sound s.pool s.rooms a ≡ a
on_sound-is s h a =
    ap₂ (λ (x y : Bool). when x then refused 22 nowhere else when not y then refused 24 nowhere else a) (le-ltb 268435455 (length s.rooms.text) h.0) h.1

on_place : {A : Type 0} (k : ℕ) (more : ℕ → Answer A) → k < 16777215 → on_reference (pos (k + 1)) more ≡ more k
on_place k more h =
    let a : ltb (k + 1) 1 ≡ false = le-ltb (k + 1) 1 (omega arith) in
    let b : ltb 16777215 (k + 1) ≡ false = le-ltb 16777215 (k + 1) (omega arith) in
    let i : k + 1 - 1 ≡ k = omega arith in
    ap₂ (λ (x y : Bool). on_given (when x || y then refused 8 nowhere else gives (pos (k + 1))) (λ n. more (nat_abs n - 1))) a b ∙ ap more i

shows-at : (s : State) → SoundState s → (k : ℕ) → k < 16777215 → shows s (pos (k + 1)) ≡ (get_or (entries s) k none).text
shows-at s h k b = ap or_empty (on_sound-is s h (on_reference (pos (k + 1)) (λ i. gives (get_or (entries s) i none).text)) ∙ on_place k (λ i. gives (get_or (entries s) i none).text) b)

count_at : (s : State) → SoundState s → (k : ℕ) → k < 16777215 → count s (pos (k + 1)) ≡ (get_or (entries s) k none).count
count_at s h k b = ap count_or0 (on_sound-is s h (on_reference (pos (k + 1)) (λ i. gives (get_or (entries s) i none).count)) ∙ on_place k (λ i. gives (get_or (entries s) i none).count) b)

below_end : (s : State) (r : ℤ) → DidDrop s.pool s.rooms r → place_of r < 16777215
below_end s r d = omega (arith, d.inside, d.fit.few, length-entries s.pool.num_strings s.rooms d.fit.fit)

-- ---- a text

text-step : (t : List ℕ) (s : State) (c : Call) → LegalCall c
    → sum_for t (entries (after s c)) + one (gave_up t s c) ≡ sum_for t (entries s) + one (took t s c)
text-step t s (take-of choose u) l = go (case-of s choose u l)
  where
    tallied : Answer ((ℤ × StringPool) × Rooms) → ℕ
    tallied x = one (accepted (outcome s.rooms x).0 && same_bytes u t)

    go : TakeCase s choose u → sum_for t (entries (after s (take-of choose u))) + 0 ≡ sum_for t (entries s) + tallied (take_answer choose s.pool s.rooms u)
    go (no n at e) = omega (arith, ap (λ (x : Answer ((ℤ × StringPool) × Rooms)). sum_for t (entries (taken_to s x))) e, ap tallied e)
    go (yes e d) =
        omega (
          arith,
          ap (sum_for t) (take-made s choose u e),
          take-sum t u (entries s) (choose u (entries s)) (at_place s choose u l),
          ap tallied e,
        )
text-step t s (drop_of r) l = go (drop-case s.pool s.rooms r)
  where
    tallied : Answer (StringPool × Rooms) → ℕ
    tallied x = one (accepted (outcome s.rooms x).0 && same_bytes (shows s r) t)

    go : DropCase s r → sum_for t (entries (after s (drop_of r))) + tallied (drop_answer s.pool s.rooms r) ≡ sum_for t (entries s) + 0
    go (no n at e) = omega (arith, ap (λ (x : Answer (StringPool × Rooms)). sum_for t (entries (dropped_to s x))) e, ap tallied e)
    go (yes e d) =
        let shown : shows s r ≡ (get_or (entries s) (place_of r) none).text = ap (shows s) d.number ∙ shows-at s (drop-was s r d) (place_of r) (below_end s r d) in
        omega (
          arith,
          ap (sum_for t) (drop-made s r d e),
          drop-sum t (entries s) (place_of r) d.inside d.counted,
          ap tallied e,
          ap (λ (x : List ℕ). one (same_bytes x t)) shown,
        )

-- ---- a reference

-- a number is that of a place, or of none
data Numbered (r : ℤ) : Type 0 where
  place : (k : ℕ) → k < 16777215 → r ≡ pos (k + 1) → Numbered r
  outside : ((more : ℕ → Answer ℕ) → on_reference r more ≡ refused 8 nowhere) → ((m : ℕ) → m < 16777215 → same_number (pos (m + 1)) r ≡ false) → Numbered r

numbered : (r : ℤ) → Numbered r
numbered (negsuc n) = outside (λ more. refl) (λ m h. refl)
numbered (pos n) = go (ltb n 1) (ltb 16777215 n) refl refl
  where
    go : (a b : Bool) → ltb n 1 ≡ a → ltb 16777215 n ≡ b → Numbered (pos n)
    go true b f g =
        outside (λ more. ap (λ (x : Bool). on_given (when x || ltb 16777215 n then refused 8 nowhere else gives (pos n)) (λ m. more (nat_abs m - 1))) f)
        (λ m h. ne_eqb (m + 1) n (λ i. omega (arith, ltb-true n 1 f, i)))
    go false true f g =
        outside (λ more. ap₂ (λ (x y : Bool). on_given (when x || y then refused 8 nowhere else gives (pos n)) (λ m. more (nat_abs m - 1))) f g)
        (λ m h. ne_eqb (m + 1) n (λ i. omega (arith, ltb-true 16777215 n g, i, h)))
    go false false f g =
        let a : 1 ≤ n = ltb-false n 1 f in
        let b : n ≤ 16777215 = ltb-false 16777215 n g in
        let e : n ≡ n - 1 + 1 = omega arith in
        place (n - 1) (omega arith) (ap pos e)

same_next : (a b : ℕ) (r : ℤ) → r ≡ pos (b + 1) → same_number (pos (a + 1)) r ≡ eqb a b
same_next a b r e = ap (same_number (pos (a + 1))) e ∙ ap₂ eqb (add-one a) (add-one b) ∙ eqb-suc-suc a b

count_none : (s : State) → SoundState s → (r : ℤ) → ((more : ℕ → Answer ℕ) → on_reference r more ≡ refused 8 nowhere) → count s r ≡ 0
count_none s h r o = ap count_or0 (on_sound-is s h (on_reference r (λ i. gives (get_or (entries s) i none).count)) ∙ o (λ i. gives (get_or (entries s) i none).count))

ref_step : (r : ℤ) (s : State) (c : Call) → LegalCall c
    → count (after s c) r + one (gave_up_ref r s c) ≡ count s r + one (took_ref r s c)
ref_step r s (take-of choose u) l = go (case-of s choose u l) (numbered r)
  where
    tallied : Answer ((ℤ × StringPool) × Rooms) → ℕ
    tallied x = one (answers (outcome s.rooms x).0 r)

    go : TakeCase s choose u → Numbered r → count (after s (take-of choose u)) r + 0 ≡ count s r + tallied (take_answer choose s.pool s.rooms u)
    go (no n at e) x = omega (arith, ap (λ (y : Answer ((ℤ × StringPool) × Rooms)). count (taken_to s y) r) e, ap tallied e)
    go (yes e d) (outside o f) =
        omega (arith, count_none s (take-was s choose u d) r o, count_none (after s (take-of choose u)) (take-is s choose u e d) r o, ap tallied e ∙ ap one (f (choose u (entries s)) d.below))
    go (yes e d) (place j b q) =
        omega (
          arith,
          ap (count (after s (take-of choose u))) q ∙ count_at (after s (take-of choose u)) (take-is s choose u e d) j b,
          ap (count s) q ∙ count_at s (take-was s choose u d) j b,
          ap (λ (es : List Entry). (get_or es j none).count) (take-made s choose u e),
          take_count u (entries s) (choose u (entries s)) j (l u (entries s)).0,
          ap tallied e ∙ ap one (same_next (choose u (entries s)) j r q),
        )
ref_step r s (drop_of q) l = go (drop-case s.pool s.rooms q) (numbered r)
  where
    tallied : Answer (StringPool × Rooms) → ℕ
    tallied x = one (accepted (outcome s.rooms x).0 && same_number q r)

    go : DropCase s q → Numbered r → count (after s (drop_of q)) r + tallied (drop_answer s.pool s.rooms q) ≡ count s r + 0
    go (no n at e) x = omega (arith, ap (λ (y : Answer (StringPool × Rooms)). count (dropped_to s y) r) e, ap tallied e)
    go (yes e d) (outside o f) =
        omega (
          arith,
          count_none s (drop-was s q d) r o,
          count_none (after s (drop_of q)) (drop-is s q e d) r o,
          ap tallied e,
          ap (λ (y : ℤ). one (same_number y r)) d.number ∙ ap one (f (place_of q) (below_end s q d)),
        )
    go (yes e d) (place j b i) =
        omega (
          arith,
          ap (count (after s (drop_of q))) i ∙ count_at (after s (drop_of q)) (drop-is s q e d) j b,
          ap (count s) i ∙ count_at s (drop-was s q d) j b,
          ap (λ (es : List Entry). (get_or es j none).count) (drop-made s q d e),
          drop-count (entries s) (place_of q) j d.inside d.counted,
          ap tallied e,
          ap (λ (y : ℤ). one (same_number y r)) d.number ∙ ap one (same_next (place_of q) j r i),
        )

-- a reference that stays counted shows the same bytes
keep_step : (r : ℤ) (s : State) (c : Call) → LegalCall c
    → 1 ≤ count s r → 1 ≤ count (after s c) r → shows (after s c) r ≡ shows s r
keep_step r s (take-of choose u) l a a' = go (case-of s choose u l) (numbered r)
  where
    go : TakeCase s choose u → Numbered r → shows (after s (take-of choose u)) r ≡ shows s r
    go (no n at e) x = ap (λ (y : Answer ((ℤ × StringPool) × Rooms)). shows (taken_to s y) r) e
    go (yes e d) (outside o f) = absurd (omega (arith, a, count_none s (take-was s choose u d) r o))
    go (yes e d) (place j b q) =
        let c : 1 ≤ (get_or (entries s) j none).count = omega (arith, a, ap (count s) q ∙ count_at s (take-was s choose u d) j b) in
        ap (shows (after s (take-of choose u))) q ∙ shows-at (after s (take-of choose u)) (take-is s choose u e d) j b
        ∙ ap (λ (es : List Entry). (get_or es j none).text) (take-made s choose u e)
        ∙ take-text u (entries s) (choose u (entries s)) j (l u (entries s)).0 c
        ∙ sym (ap (shows s) q ∙ shows-at s (take-was s choose u d) j b)
keep_step r s (drop_of q) l a a' = go (drop-case s.pool s.rooms q) (numbered r)
  where
    go : DropCase s q → Numbered r → shows (after s (drop_of q)) r ≡ shows s r
    go (no n at e) x = ap (λ (y : Answer (StringPool × Rooms)). shows (dropped_to s y) r) e
    go (yes e d) (outside o f) = absurd (omega (arith, a, count_none s (drop-was s q d) r o))
    go (yes e d) (place j b i) =
        let made : entries (after s (drop_of q)) ≡ lessened_at s.pool s.rooms (place_of q) = drop-made s q d e in
        let c : 1 ≤ (get_or (lessened_at s.pool s.rooms (place_of q)) j none).count =
        omega (arith, a', ap (count (after s (drop_of q))) i ∙ count_at (after s (drop_of q)) (drop-is s q e d) j b, ap (λ (es : List Entry). (get_or es j none).count) made) in
        ap (shows (after s (drop_of q))) i ∙ shows-at (after s (drop_of q)) (drop-is s q e d) j b
        ∙ ap (λ (es : List Entry). (get_or es j none).text) made
        ∙ drop-text (entries s) (place_of q) j d.inside c
        ∙ sym (ap (shows s) i ∙ shows-at s (drop-was s q d) j b)

-- ---- any list of calls

legal-first : (c : Call) (cs : List Call) → AllLegal (c ∷ cs) → LegalCall c
legal-first (take-of choose t) cs l = l.0
legal-first (drop_of r) cs l = tt

legal-rest : (c : Call) (cs : List Call) → AllLegal (c ∷ cs) → AllLegal cs
legal-rest (take-of choose t) cs l = l.1
legal-rest (drop_of r) cs l = l

pub stays_sound : StaysSound
stays_sound s [] l h = h
stays_sound s (c ∷ cs) l h = stays_sound (after s c) cs (legal-rest c cs l) (sound-step s c (legal-first c cs l) h)

text-law : (t : List ℕ) (s : State) (cs : List Call) → AllLegal cs
    → sum_for t (entries (ran s cs)) + tally (gave_up t) s cs ≡ sum_for t (entries s) + tally (took t) s cs
text-law t s [] l = refl
text-law t s (c ∷ cs) l = omega (arith, text-step t s c (legal-first c cs l), text-law t (after s c) cs (legal-rest c cs l))

ref_law : (r : ℤ) (s : State) (cs : List Call) → AllLegal cs
    → count (ran s cs) r + tally (gave_up_ref r) s cs ≡ count s r + tally (took_ref r) s cs
ref_law r s [] l = refl
ref_law r s (c ∷ cs) l = omega (arith, ref_step r s c (legal-first c cs l), ref_law r (after s c) cs (legal-rest c cs l))

stays_now : (r : ℤ) (s : State) (cs : List Call) → StaysCounted r s cs → 1 ≤ count s r
stays_now r s [] k = k
stays_now r s (c ∷ cs) k = k.0

keep_law : (r : ℤ) (s : State) (cs : List Call) → AllLegal cs → StaysCounted r s cs → shows (ran s cs) r ≡ shows s r
keep_law r s [] l k = refl
keep_law r s (c ∷ cs) l k =
    keep_law r (after s c) cs (legal-rest c cs l) k.1 ∙ keep_step r s c (legal-first c cs l) k.0 (stays_now r (after s c) cs k.1)

ran_append : (s : State) (as' bs : List Call) → ran s (as' ++ bs) ≡ ran (ran s as') bs
ran_append s [] bs = refl
ran_append s (c ∷ as') bs = ran_append (after s c) as' bs

legal-later : (as' bs : List Call) → AllLegal (as' ++ bs) → AllLegal bs
legal-later [] bs l = l
legal-later (take-of choose t ∷ as') bs l = legal-later as' bs l.1
legal-later (drop_of r ∷ as') bs l = legal-later as' bs l

pub counts-kept : CountsKept
counts-kept s cs l = record {
  text = λ t. text-law t s cs l;
  reference = λ r. ref_law r s cs l;
  keeps = λ r earlier later e k.
      ap (λ (x : List Call). shows (ran s x) r) e ∙ ap (λ (x : State). shows x r) (ran_append s earlier later)
      ∙ keep_law r (ran s earlier) later (legal-later earlier later (subst AllLegal e l)) k;
}

pub chooses_legally : ChoosesLegally
chooses_legally = (first-free-or-equal, equal-then_free)

all-legal : (ops : List Op) → AllLegal (map as_call ops)
all-legal [] = tt
all-legal (takes t ∷ ops) = (equal-then_free, all-legal ops)
all-legal (takes_first t ∷ ops) = (first-free-or-equal, all-legal ops)
all-legal (drops r ∷ ops) = all-legal ops

pub calls-kept : CallsKept
calls-kept s ops = counts-kept s (map as_call ops) (all-legal ops)

pub kept_from_new : KeptFromNew
kept_from_new page w p ops e = calls-kept (record { pool = p; rooms = w }) ops

pub kept_from_load : KeptFromLoad
kept_from_load s d w p v ops e = calls-kept (record { pool = p; rooms = v }) ops

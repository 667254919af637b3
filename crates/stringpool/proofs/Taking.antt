-- Laws of what a take settles: its answer, and the step that it does.
use mathlib.Core.Path.{◌≡◌, refl, sym, ap, ap₂, subst, ◌∙◌}
use Prim.Native.Nat.{ℕ, ◌+◌, ◌-◌, ◌≤◌, ◌<◌}
use native.Mathlib.Omega.{arith}
use mathlib.Core.Bool.{Bool, true, false, ◌&&◌, ◌||◌}
use mathlib.Core.List.{List, [], ◌∷◌, ◌++◌}
use lib.ListN.{length, take, get_or, set, length-append, length-set}
use lib.IntN.{ℤ, pos}
use Rattle.std.specs.Prelude.{Result, Ok, Err}
use lib.Dec.{ltb, leb}
use borrow.Author.Tests.{eq-eqb, ne_eqb, lt-ltb, le-ltb, le-leb, lt-leb, ltb-true, ltb-false, eqb-true}
use Rattle.common.specs.Choice.{when◌then◌else◌, ◌<?◌, ◌=?◌}
use Rattle.common.specs.Lists.{total}
use Rattle.common.specs.Answers.{Answer, gives, refused, nowhere, on_given, outcome}
use Rattle.common.specs.Refusals.{refused_by}
use Rattle.common.specs.declared.refusal.Refusal.{Refusal}
use Rattle.common.specs.declared.refusal.Refusal.TheVariants.{TextRoom}
use Rattle.common.proofs.Outcomes.{refused-gives}
use Rattle.common.proofs.Sums.{total-in}
use Rattle.order.specs.Order.{add_fits_lem, text_fits}
use Rattle.order.proofs.Laws.{add-fits}
use Rattle.pool_entries.specs.Calls.{spot_at, choose_answer}
use Rattle.pool_entries.proofs.Calls.{call_passed, call_size, call_given, call_on}
use Rattle.stringpool.specs.Pool.{Entry, entry, Rooms, entries_of, texts, put_back, entry_room_lem, free, on_sound}
use Rattle.stringpool.specs.Take.{same_bytes, equal, Chooser, Legal, increased, taken_at_lem, counting, take_at, take_answer, take_outcome}
use Rattle.stringpool.specs.inner.Entries.{Fit, none}
use Rattle.stringpool.specs.inner.Plan.{carried, put_at, Ready, Planned}
use Rattle.pool_entries.specs.declared.choosing.Spot.{Spot}
use Rattle.stringpool.specs.inner.Take.{IsChosen, Known, Chosen, holding_at, taken_by, Numbered}
use Rattle.stringpool.specs.declared.pool.StringPool.{StringPool}
use Rattle.stringpool.specs.declared.entry.Plan.{Plan}
use Rattle.stringpool.specs.declared.entry.Plan.TheVariants.{Count, Put}
use Rattle.stringpool.proofs.Entries.{length-entries, put_one, put_count, put_added, length-same, length-texts_at, length-texts_added, count_at}

-- what a take of t at the place k settles
abbrev pub At : StringPool → Rooms → List ℕ → ℕ → Result Plan Refusal → Type 0
At p w t k x = Planned (outcome w (take_at p w t k)) (taken_by p) x w t

module _ (p : StringPool) (w : Rooms) (fit : Fit p.num_strings w) (t : List ℕ) where
  abbrev n : ℕ
  n = p.num_strings

  abbrev es : List Entry
  es = entries_of p w

  -- the public definition, by whether an entry is new, how many there are, what they become and the place
  abbrev TakeBy : Bool → ℕ → List Entry → ℕ → Answer ((ℤ × StringPool) × Rooms)
  TakeBy new m after k =
      on_given (when new then add_fits_lem p.long_string_refs m (entry_room_lem w) (length (texts after)) (length w.text) else text_fits (length (texts after)) (length w.text))
      (λ _. gives ((pos (k + 1), counting p (length after)), put_back p w after))

  known : length es ≡ n
  known = length-entries n w fit

  module _ (k : ℕ) (hk : k < n) where
    -- at an entry that is there and becomes e, where the texts exceed the room or not
    abbrev AtEntry : Entry → Bool → Answer ((ℤ × StringPool) × Rooms)
    AtEntry e b = on_given {A = Unit {0}} (when b then refused 6 nowhere else gives tt) (λ _. gives ((pos (k + 1), p), put_back p w (set es k e)))

    at_entry : (e : Entry) → increased t (get_or es k none) ≡ e → take_at p w t k ≡ AtEntry e (ltb (length w.text) (length (texts (set es k e))))
    at_entry e f =
        let there : ltb k (length es) ≡ true = lt-ltb k (length es) (omega (arith, known)) in
        let old : leb (length es) k ≡ false = lt-leb (length es) k (omega (arith, known)) in
        let made : taken_at_lem t k es ≡ set es k e = ap₂ (λ (b : Bool) (x : Entry). when b then set es k x else es ++ (entry t 1 ∷ [])) there f in
        ap₂ (λ (b : Bool) (x : List Entry). TakeBy b (length es) x k) old made
        ∙ ap (λ (i : ℕ). on_given (text_fits (length (texts (set es k e))) (length w.text)) (λ _. gives ((pos (k + 1), counting p i), put_back p w (set es k e))))
        (length-set es k e ∙ known)

    done_at : (e : Entry) → increased t (get_or es k none) ≡ e → length (texts (set es k e)) ≤ length w.text
        → (left : Rooms) → left ≡ put_back p w (set es k e)
        → ◌≡◌ {A = Answer (ℤ × StringPool) × Rooms} (gives (pos (k + 1), p), left) (outcome w (take_at p w t k))
    done_at e f h left l =
        ap (λ (y : Rooms). (gives (pos (k + 1), p), y)) l
        ∙ sym (ap (outcome w) (at_entry e f ∙ ap (AtEntry e) (le-ltb (length w.text) (length (texts (set es k e))) h)))

    counted-free : get_or w.counts k 0 ≡ 0 → increased t (get_or es k none) ≡ entry t 1
    counted-free z =
        ap (λ (b : Bool). when b then entry t 1 else entry (get_or es k none).text ((get_or es k none).count + 1))
        (eq-eqb (get_or es k none).count 0 (count_at n w fit k hk ∙ z))

    -- no entry is added
    same_pool : {left : Rooms} → ◌≡◌ {A = Answer (ℤ × StringPool) × Rooms} (gives (pos (k + 1), holding_at p k), left) (gives (pos (k + 1), p), left)
    same_pool {left} = ap (λ (b : Bool). (gives (pos (k + 1), when b then p else counting p (k + 1)), left)) (lt-ltb k n hk)

    -- an equal entry counts up
    pub equal-done : n ≤ 16777215 → 0 < get_or w.counts k 0 → (more : ℕ) → more ≡ get_or w.counts k 0 + 1 → At p w t k (Ok (Count k more))
    equal-done m z more up =
        let c : ℕ = (get_or es k none).count in
        let e : Entry = entry (get_or es k none).text (c + 1) in
        let f : increased t (get_or es k none) ≡ e =
        ap (λ (b : Bool). when b then entry t 1 else e) (ne_eqb c 0 (λ i. omega (arith, z, i, count_at n w fit k hk))) in
        rw up (
          same_pool ∙ done_at e f (omega (arith, fit.text, length-same n w fit k hk (c + 1))) _
              (sym (put_count p w fit k hk (get_or w.counts k 0 + 1))
              ∙ ap (λ (i : ℕ). put_back p w (set es k (record { text = (get_or es k none).text; count = i + 1 }))) (sym (count_at n w fit k hk))),
          (omega arith, omega (arith, fit.counts)),
        )

    module _ (z : get_or w.counts k 0 ≡ 0) where
      pub free-full : length w.text < total (take n w.lengths) - get_or w.lengths k 0 + length t
          → At p w t k (Err TextRoom)
      free-full h =
          let all : ℕ = length (texts (set es k (entry t 1))) in
          let f : ltb (length w.text) all ≡ true = lt-ltb (length w.text) all (omega (arith, length-texts_at n w fit k hk (entry t 1))) in
          sym (ap (outcome w) (at_entry (entry t 1) (counted-free z) ∙ ap (AtEntry (entry t 1)) f))

      pub free-done : n ≤ 16777215 → length t ≤ 268435455 → length w.text ≤ 268435455 → total (take n w.lengths) - get_or w.lengths k 0 + length t ≤ length w.text
          → At p w t k (Ok (put_at k (total (take k w.lengths)) (get_or w.lengths k 0) (total (take n w.lengths)) 1))
      free-done m s size h = (
        same_pool ∙ done_at (entry t 1) (counted-free z) (omega (arith, length-texts_at n w fit k hk (entry t 1))) _ (sym (put_one p w fit k hk (entry t 1) h)),
        (omega arith, omega (arith, fit.lengths), omega (arith, fit.counts), omega arith, total-in w.lengths k n hk fit.lengths, fit.text, h, size),
      )

  -- a new entry
  abbrev Fitting : Answer (Unit {0})
  Fitting = add_fits_lem p.long_string_refs n (entry_room_lem w) (total (take n w.lengths) + length t) (length w.text)

  abbrev Grown : Answer ((ℤ × StringPool) × Rooms)
  Grown = gives ((pos (n + 1), counting p (length (es ++ (entry t 1 ∷ [])))), put_back p w (es ++ (entry t 1 ∷ [])))

  adding : (a : Answer (Unit {0})) → a ≡ Fitting → take_at p w t n ≡ on_given a (λ _. Grown)
  adding a e =
      let new : leb (length es) n ≡ true = le-leb (length es) n (omega (arith, known)) in
      let beyond : ltb n (length es) ≡ false = le-ltb n (length es) (omega (arith, known)) in
      let made : taken_at_lem t n es ≡ es ++ (entry t 1 ∷ []) =
      ap (λ (b : Bool). when b then set es n (increased t (get_or es n none)) else es ++ (entry t 1 ∷ [])) beyond in
      ap₂ (λ (b : Bool) (x : List Entry). TakeBy b (length es) x n) new made
      ∙ ap₂ (λ (m i : ℕ). on_given (add_fits_lem p.long_string_refs m (entry_room_lem w) i (length w.text)) (λ _. Grown)) known (length-texts_added n w fit (entry t 1))
      ∙ ap (λ (x : Answer (Unit {0})). on_given x (λ _. Grown)) (sym e)

  pub added_refused : (x : Refusal) → refused_by x ≡ Fitting → At p w t n (Err x)
  added_refused x e = sym (ap (outcome w) (adding (refused_by x) e))

  pub added_done : gives tt ≡ Fitting → length t ≤ 268435455 → length w.text ≤ 268435455 → At p w t n (Ok (put_at n (total (take n w.lengths)) 0 (total (take n w.lengths)) 1))
  added_done e s size =
      let f = add-fits p.long_string_refs n (entry_room_lem w) (total (take n w.lengths) + length t) (length w.text) (sym e) in
      let grown : n + 1 ≡ length (es ++ (entry t 1 ∷ [])) = sym (length-append es (entry t 1 ∷ []) ∙ ap (λ (i : ℕ). i + 1) known) in (
        ap (λ (b : Bool). (gives (pos (n + 1), when b then p else counting p (n + 1)), carried (put_at n (total (take n w.lengths)) 0 (total (take n w.lengths)) 1) w t)) (le-ltb n n (omega arith))
            ∙ ap (λ (y : Rooms). (gives (pos (n + 1), counting p (n + 1)), y)) (sym (put_added p w fit (entry t 1) (omega (arith, f.1)) (omega (arith, f.1))))
            ∙ ap (λ (i : ℕ). (gives (pos (n + 1), counting p i), put_back p w (es ++ (entry t 1 ∷ [])))) grown
            ∙ sym (ap (outcome w) (adding (gives tt) e)),
        (omega (arith, f.0), omega (arith, f.1), omega (arith, f.1), omega arith, omega arith, fit.text, omega (arith, f.2), size),
      )

-- the same by the numbers that were found
module _ (p : StringPool) (w : Rooms) (fit : Fit p.num_strings w) (t : List ℕ) (k entries used : ℕ)
    (new : k ≡ p.num_strings) (room : entries ≡ entry_room_lem w) (sum : used ≡ total (take p.num_strings w.lengths)) where
  fitting : add_fits_lem p.long_string_refs k entries (used + length t) (length w.text) ≡ Fitting p w fit t
  fitting = λ i. add_fits_lem p.long_string_refs (new i) (room i) (sum i + length t) (length w.text)

  pub not_added : (x : Refusal) → refused_by x ≡ add_fits_lem p.long_string_refs k entries (used + length t) (length w.text) → At p w t k (Err x)
  not_added x e = subst (λ (i : ℕ). At p w t i (Err x)) (sym new) (added_refused p w fit t x (e ∙ fitting))

  pub added : (start : ℕ) → start ≡ total (take k w.lengths) → gives tt ≡ add_fits_lem p.long_string_refs k entries (used + length t) (length w.text)
      → length t ≤ 268435455 → length w.text ≤ 268435455 → At p w t k (Ok (put_at k start 0 used 1))
  added start begins e small large = rw (begins, new, sum) (added_done p w fit t (e ∙ fitting) small large)

-- ---- the entry that is chosen

-- of an entry that is not free, an equal one
below : (t : List ℕ) (e : Entry) → (free e || equal t e) ≡ true → 0 < e.count → e.count < 65535
below t e h z = go (e.count =? 0) (same_bytes e.text t) (e.count <? 65535) refl refl h
  where
    go : (a b c : Bool) → (e.count =? 0) ≡ a → (e.count <? 65535) ≡ c → (a || (b && c)) ≡ true → e.count < 65535
    go true b c f g q = absurd (omega (arith, eqb-true e.count 0 f))
    go false b true f g q = ltb-true e.count 65535 g
    go false true false f g q = let y : ◌≡◌ {A = ℕ} 0 1 = cc in absurd (omega arith)
    go false false false f g q = let y : ◌≡◌ {A = ℕ} 0 1 = cc in absurd (omega arith)

module _ (choose : Chooser) (p : StringPool) (w : Rooms) (t : List ℕ) where
  abbrev m : ℕ
  m = p.num_strings

  abbrev chosen : ℕ
  chosen = choose t (entries_of p w)

  abbrev At₀ : ℕ × ℕ × ℕ
  At₀ = spot_at m w chosen

  -- by whether the text is above the sizes
  abbrev By : {A : Type 0} → Answer A → Bool → Answer A
  By a b = when b then refused 22 nowhere else on_sound p w a

  -- of the place that is answered, what is known, and that a take there is the take
  abbrev Found : ℕ × ℕ × ℕ → Type 0
  Found y = Known p w t (record { place = y.0; start = y.1; used = y.2 }) × (take_at p w t y.0 ≡ take_answer choose p w t)

  found : Legal choose → {y : ℕ × ℕ × ℕ} → gives y ≡ choose_answer choose m p.codepage w t → Found y
  found legal {y} e = go (268435455 <? length t) refl e
    where
      go : (b : Bool) → (268435455 <? length t) ≡ b → gives y ≡ By (gives At₀) b → Found y
      go true f q = absurd (refused-gives (sym q))
      go false f q =
          let g = call_passed m p.codepage w At₀ q in
          let long = length-entries m w g.fit in
          let at = legal t (entries_of p w) in
          subst Found (sym (call_given m p.codepage w At₀ q)) (
            record {
              judged = record { fit = g.fit; sum = refl; few = g.few; large = call_size m p.codepage w At₀ q };
              small = ltb-false 268435455 (length t) f;
              within = omega (arith, at.0, long);
              begins = refl;
              below = λ h z.
                  let c : (get_or (entries_of p w) chosen none).count ≡ get_or w.counts chosen 0 = count_at m w g.fit chosen h in
                  omega (arith, below t (get_or (entries_of p w) chosen none) (at.1 (omega (arith, long, h))) (omega (arith, c, z)), c);
            },
            call_on m p.codepage w At₀ q (take_at p w t chosen) ∙ sym (ap (By (take_at p w t chosen)) f),
          )

-- a legal choice is chosen
pub chosen_by : (by : Chooser) (legal : Legal by) {p : StringPool} {w : Rooms} {t : List ℕ} {s : Spot} → IsChosen by p w t s → Chosen p w t s
chosen_by by legal {p} {w} {t} is = record { known = (found by p w t legal is).0; chooser = by; legal = legal; is = is }

-- what is settled at its place is settled of the take
pub taken_at : (by : Chooser) (legal : Legal by) (p : StringPool) (w : Rooms) (t : List ℕ) (s : Spot) → IsChosen by p w t s
    → (x : Result Plan Refusal) → At p w t s.place x → Planned (take_outcome by p w t) (taken_by p) x w t
taken_at by legal p w t s is x d =
    subst (λ (o : Answer (ℤ × StringPool) × Rooms). Planned o (taken_by p) x w t) (ap (outcome w) (found by p w t legal is).1) d

-- the place of an entry that is there, or is added, has a number
pub numbered : (w : Rooms) (t : List ℕ) (x : Plan) → Ready x w t → Numbered x
numbered w t (Count k c) r = r.0
numbered w t (Put k s c) r = r.0

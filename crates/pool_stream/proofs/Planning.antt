-- What a plan of a load says, taken apart; and the lengths and counts that a load leaves.
use mathlib.Core.Path.{◌≡◌, refl, sym, ap, ap₂, ◌∙◌}
use Prim.Native.Nat.{ℕ, ◌+◌, ◌≤◌}
use native.Mathlib.Omega.{arith}
use mathlib.Core.List.{List, ◌++◌}
use lib.ListN.{length, drop}
use lib.Seq.{paste, take_all}
use Rattle.common.specs.Lists.{◌over◌, total}
use Rattle.common.specs.Answers.{Answer, Place, gives, refused, on_given, outcome}
use Rattle.common.proofs.Outcomes.{refused-gives}
use Rattle.order.specs.Order.{streams_fit_lem, load_fits_lem}
use Rattle.order.proofs.Laws.{streams_fit, load_fits}
use Rattle.pool_entries.specs.Entries.{Rooms, rooms, entry_room_lem}
use Rattle.pool_stream.specs.Entries.{pool_entries_lem}
use Rattle.pool_stream.specs.Plan.{sizes_of, load_plan, entries_outcome}
use Rattle.pool_stream.specs.inner.Sizes.{or_none, lengths_in, counts_in, Filling}
use Rattle.pool_stream.proofs.Reading.{even}

-- 3, 4, 5, 6 where these are the sizes
abbrev pub fitted : ℕ → ℕ → ℕ → ℕ × ℕ → Answer (ℕ × ℕ)
fitted entries stream text x = on_given (load_fits_lem x.0 x.1 entries stream text) (λ _. gives x)

module _ (s : List ℕ) (entries stream text : ℕ) where
  abbrev Sizes : ℕ × ℕ → Answer (Unit {0})
  Sizes x = load_fits_lem x.0 x.1 entries stream text

  abbrev By : Answer (Unit {0}) → Answer (List ℕ × List ℕ) → Answer (List ℕ × List ℕ)
  By a b = on_given a (λ _. on_given b (λ x. on_given (load_fits_lem (length x.0) (total x.0) entries stream text) (λ _. gives x)))

  -- the sizes go through the same tests
  pub plan_sizes : on_given (streams_fit_lem (length s) stream text) (λ _. on_given (sizes_of (pool_entries_lem s)) (fitted entries stream text)) ≡ sizes_of (load_plan s entries stream text)
  plan_sizes = go (streams_fit_lem (length s) stream text) (pool_entries_lem s)
    where
      last : (x : List ℕ × List ℕ) (f : Answer (Unit {0}))
          → ◌≡◌ {A = Answer (ℕ × ℕ)} (on_given f (λ _. gives (length x.0, total x.0))) (sizes_of (on_given f (λ _. gives x)))
      last x (refused k at) = refl
      last x (gives tt) = refl

      go : (a : Answer (Unit {0})) (b : Answer (List ℕ × List ℕ)) → on_given a (λ _. on_given (sizes_of b) (fitted entries stream text)) ≡ sizes_of (By a b)
      go (refused k at) b = refl
      go (gives tt) (refused k at) = refl
      go (gives tt) (gives x) = last x (load_fits_lem (length x.0) (total x.0) entries stream text)

-- n entries, none cut, whose texts take u bytes; the rooms and the data stream have them
pub record PlanOf (s : List ℕ) (entries stream text n u : ℕ) : Type 0 where
  pub is : load_plan s entries stream text ≡ gives (lengths_in s, counts_in s)
  pub read : pool_entries_lem s ≡ gives (lengths_in s, counts_in s)
  pub many : n ≡ length (lengths_in s)
  pub sum : u ≡ total (lengths_in s)
  pub marked : 4 ≤ length s
  pub small : length s ≤ 268435455
  pub long : length (lengths_in s) ≤ entries
  pub stored : total (lengths_in s) ≤ stream
  pub room : total (lengths_in s) ≤ text
  pub within : text ≤ 268435455

abbrev pair_by : Answer (ℕ × ℕ) → ℕ × ℕ
pair_by (gives x) = x
pair_by (refused n at) = (0, 0)

pub plan_of : (s : List ℕ) (entries stream text n u : ℕ) → gives (n, u) ≡ sizes_of (load_plan s entries stream text) → PlanOf s entries stream text n u
plan_of s entries stream text n u e = go (streams_fit_lem (length s) stream text) (pool_entries_lem s) refl refl e
  where
    last : (x : List ℕ × List ℕ) (f : Answer (Unit {0})) → streams_fit_lem (length s) stream text ≡ gives tt → pool_entries_lem s ≡ gives x
        → load_fits_lem (length x.0) (total x.0) entries stream text ≡ f → gives (n, u) ≡ sizes_of (on_given f (λ _. gives x)) → PlanOf s entries stream text n u
    last x (refused k at) a b f q = absurd (refused-gives (sym q))
    last x (gives tt) a b f q =
        let ls : lengths_in s ≡ x.0 = ap (λ (y : Answer (List ℕ × List ℕ)). (or_none y).0) b in
        let cs : counts_in s ≡ x.1 = ap (λ (y : Answer (List ℕ × List ℕ)). (or_none y).1) b in
        let same : gives x ≡ gives (lengths_in s, counts_in s) = ap₂ (λ (y z : List ℕ). gives (y, z)) (sym ls) (sym cs) in
        let g = load_fits (length x.0) (total x.0) entries stream text f in
        let c = streams_fit (length s) stream text a in
        let m : length (lengths_in s) ≡ length x.0 = ap length ls in
        let t : total (lengths_in s) ≡ total x.0 = ap total ls in
        record {
          is = ap₂ (By s entries stream text) a b ∙ ap (λ (y : Answer (Unit {0})). on_given y (λ _. gives x)) f ∙ same;
          read = b ∙ same;
          many = ap (λ (y : Answer (ℕ × ℕ)). (pair_by y).0) q ∙ sym m;
          sum = ap (λ (y : Answer (ℕ × ℕ)). (pair_by y).1) q ∙ sym t;
          marked = c.3;
          small = c.0;
          long = omega (arith, m, g.1);
          stored = omega (arith, t, g.2);
          room = omega (arith, t, g.3);
          within = c.2;
        }

    go : (a : Answer (Unit {0})) (b : Answer (List ℕ × List ℕ)) → streams_fit_lem (length s) stream text ≡ a → pool_entries_lem s ≡ b → gives (n, u) ≡ sizes_of (By s entries stream text a b) → PlanOf s entries stream text n u
    go (refused k at) b f g q = absurd (refused-gives (sym q))
    go (gives tt) (refused k at) f g q = absurd (refused-gives (sym q))
    go (gives tt) (gives x) f g q = last x (load_fits_lem (length x.0) (total x.0) entries stream text) f g refl q

-- ---- the entries that were filled in

-- a run at the front, of a list as long as it
paste_front : (d s : List ℕ) (n : ℕ) → length s ≡ n → paste d 0 s n ≡ s over d
paste_front d s n e =
    let f : 0 + n ≡ length s = omega arith in
    ap₂ (λ (x : List ℕ) (i : ℕ). x ++ drop i d) (take_all n s (omega arith)) f

module _ (s : List ℕ) (stream : ℕ) (w : Rooms) where
  abbrev Planned : Answer (List ℕ × List ℕ)
  Planned = load_plan s (entry_room_lem w) stream (length w.text)

  -- the rooms afterwards
  abbrev Filled : Answer (List ℕ × List ℕ) → Answer (ℕ × ℕ) × Rooms
  Filled a = outcome w (on_given a (λ x. gives ((length x.0, total x.0), rooms (x.0 over w.lengths) (x.1 over w.counts) w.text)))

  -- the plan by the entry room
  pub by_plan : {x : Answer (ℕ × ℕ)} {m : ℕ} → m ≡ entry_room_lem w → x ≡ sizes_of (load_plan s m stream (length w.text)) → x ≡ sizes_of Planned
  by_plan q e = e ∙ ap (λ (k : ℕ). sizes_of (load_plan s k stream (length w.text))) q

  pub entries-refused : {k : ℕ} {at : Place} → refused k at ≡ sizes_of Planned → (refused k at, w) ≡ entries_outcome s stream w
  entries-refused {k} {at} e = go Planned e
    where
      go : (b : Answer (List ℕ × List ℕ)) → refused k at ≡ sizes_of b → (refused k at, w) ≡ Filled b
      go (gives y) q = absurd (refused-gives q)
      go (refused n at) q = ap (λ (y : Answer (ℕ × ℕ)). (y, w)) q

  module _ (n u : ℕ) (e : gives (n, u) ≡ sizes_of Planned) where
    of : PlanOf s (entry_room_lem w) stream (length w.text) n u
    of = plan_of s (entry_room_lem w) stream (length w.text) n u e

    even_is : length (counts_in s) ≡ length (lengths_in s)
    even_is = sym (even (length s) (drop 4 s))

    pub filling : Filling s n (length w.lengths) (length w.counts)
    filling = record {
      is = of.read;
      many = sym of.many;
      even = even_is ∙ sym of.many;
      marked = of.marked;
      small = of.small;
      long = omega (arith, of.long, of.many);
      counted = omega (arith, of.long, of.many);
    }

    -- by the stores
    pub entries-filled : (ls cs : List ℕ) → ls ≡ paste w.lengths 0 (lengths_in s) n → cs ≡ paste w.counts 0 (counts_in s) n
        → (gives (n, u), rooms ls cs w.text) ≡ entries_outcome s stream w
    entries-filled ls cs el ec =
        ap₂ (λ (a b : List ℕ). (gives (n, u), rooms a b w.text)) (el ∙ paste_front w.lengths (lengths_in s) n (sym of.many)) (ec ∙ paste_front w.counts (counts_in s) n (even_is ∙ sym of.many))
        ∙ ap₂ (λ (a b : ℕ). (gives (a, b), rooms (lengths_in s over w.lengths) (counts_in s over w.counts) w.text)) of.many of.sum
        ∙ sym (ap Filled of.is)

  -- what was loaded, for the crate above
  pub loaded-plan : (n u : ℕ) (left : Rooms) → (gives (n, u), left) ≡ entries_outcome s stream w → gives (n, u) ≡ sizes_of Planned
  loaded-plan n u left e = go Planned e
    where
      go : (a : Answer (List ℕ × List ℕ)) → (gives (n, u), left) ≡ Filled a → gives (n, u) ≡ sizes_of a
      go (gives x) q = ap (λ (o : Answer (ℕ × ℕ) × Rooms). o.0) q
      go (refused k at) q = absurd (refused-gives (sym (ap (λ (o : Answer (ℕ × ℕ) × Rooms). o.0) q)))

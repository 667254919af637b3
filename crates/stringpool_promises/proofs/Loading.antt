-- What an accepted load says, taken apart; and that its state is sound.
use mathlib.Core.Path.{◌≡◌, refl, sym, ap, ap₂, subst, ◌∙◌}
use Prim.Native.Nat.{ℕ, zero, suc, ◌+◌, ◌≤◌, ◌<◌}
use native.Mathlib.Omega.{arith}
use mathlib.Core.Bool.{Bool, true, false, ◌&&◌}
use mathlib.Core.List.{List, ◌∷◌}
use lib.Dec.{ltb, leb, eqb}
use Rattle.common.specs.Choice.{when◌then◌else◌}
use Rattle.common.specs.Lists.{◌over◌, total}
use Rattle.common.specs.Answers.{Answer, gives, refused, on_given}
use Rattle.stringpool.specs.declared.pool.StringPool.{StringPool}
use lib.ListN.{length, take, drop, length-drop, length-append}
use lib.Seq.{get_or-drop, length-take-le, take_at}
use borrow.Author.Tests.{ltb-true, ltb-false, le-leb, eqb-true, eqb-false, ne_eqb}
use Rattle.little_endian.specs.Numbers.{number_at}
use Rattle.little_endian.specs.Promises.{AreBytes}
use Rattle.little_endian.proofs.Laws.{number_lt}
pub use Rattle.common.proofs.Outcomes.{refused-gives}
use Rattle.common.proofs.Outcomes.{outcome-gives}
use Rattle.order.specs.Order.{streams_fit_lem, load_fits_lem}
use Rattle.order.proofs.Laws.{streams_fit, load_fits}
use Rattle.stringpool.specs.Pool.{Rooms, rooms, entry_room_lem}
use Rattle.stringpool.specs.Load.{Found, one, cut, ends, entry_in, on_found, entries_in, pool_entries_lem, pool_from_lem, load_plan, load_entries, load_answer, load_outcome}
use Rattle.pool_entries.specs.inner.Sound.{small_b, all_small_lem}
use Rattle.stringpool_promises.proofs.Sounds.{SoundFit, fit-sound}
use Rattle.stringpool_promises.specs.Promises.{LoadsSound}

-- ---- one entry, by what stands there

pub data View (s : List ℕ) : Found → Type 0 where
  at_end : length s < 2 → View s (ends (length s))
  is_cut : View s cut
  narrow : 4 ≤ length s → (number_at 2 s 0 ≡ 0 → number_at 2 s 2 ≡ 0) → View s (one (number_at 2 s 0) (number_at 2 s 2) false 4)
  broad : 8 ≤ length s → number_at 2 s 0 ≡ 0 → 0 < number_at 2 s 2 → View s (one (number_at 4 s 4) (number_at 2 s 2) true 8)

pub view : (s : List ℕ) → View s (entry_in s)
view s = go (ltb (length s) 2) (ltb (length s) 4) (eqb (number_at 2 s 0) 0) (ltb 0 (number_at 2 s 2)) (ltb (length s) 8) refl refl refl refl refl
  where
    go : (a b z c d : Bool) → ltb (length s) 2 ≡ a → ltb (length s) 4 ≡ b → eqb (number_at 2 s 0) 0 ≡ z → ltb 0 (number_at 2 s 2) ≡ c → ltb (length s) 8 ≡ d
        → View s (when a then ends (length s) else when b then cut else when z && c then (when d then cut else one (number_at 4 s 4) (number_at 2 s 2) true 8) else one (number_at 2 s 0) (number_at 2 s 2) false 4)
    go true b z c d ea eb ez ec ed = at_end (ltb-true _ _ ea)
    go false true z c d ea eb ez ec ed = is_cut
    go false false true true true ea eb ez ec ed = is_cut
    go false false true true false ea eb ez ec ed = broad (ltb-false _ _ ed) (eqb-true _ _ ez) (ltb-true _ _ ec)
    go false false true false d ea eb ez ec ed = narrow (ltb-false _ _ eb) (λ q. omega (arith, ltb-false 0 (number_at 2 s 2) ec))
    go false false false c d ea eb ez ec ed = narrow (ltb-false _ _ eb) (λ q. absurd (eqb-false _ _ ez q))

-- ---- answers that give

abbrev pub given : {A : Type 0} → A → Answer A → A
given x (gives y) = y
given x (refused n at) = x

pub record Gave {A B : Type 0} (a : Answer A) (f : A → Answer B) (y : B) : Type 0 where
  pub first : A
  pub is : a ≡ gives first
  pub then' : f first ≡ gives y

pub gave : {A B : Type 0} (a : Answer A) (f : A → Answer B) (y : B) → on_given a f ≡ gives y → Gave a f y
gave (gives x) f y e = record { first = x; is = refl; then' = e }
gave (refused n at) f y e = absurd (refused-gives e)

-- ---- an accepted load

pub record IsLoaded (s d : List ℕ) (w : Rooms) (p : StringPool) (v : Rooms) : Type 0 where
  pub ls : List ℕ
  pub cs : List ℕ
  pub entries : pool_entries_lem s ≡ gives (ls, cs)
  pub marked : 4 ≤ length s
  pub stream : length s ≤ 268435455
  pub size : length w.text ≤ 268435455
  pub few : length ls ≤ 16777215
  pub room : length ls ≤ entry_room_lem w
  pub in_data : total ls ≤ length d
  pub in_text : total ls ≤ length w.text
  pub pool : p ≡ pool_from_lem s (length ls)
  pub left : v ≡ rooms (ls over w.lengths) (cs over w.counts) (take (total ls) d over w.text)

pub is-loaded : (s d : List ℕ) (w : Rooms) (p : StringPool) (v : Rooms) → load_outcome s d w ≡ (gives p, v) → IsLoaded s d w p v
is-loaded s d w p v e =
    let z = gave (load_plan s (entry_room_lem w) (length d) (length w.text)) (λ x. gives (load_entries s d w x)) (p, v) (outcome-gives w (load_answer s d w) e) in
    let fitting : List ℕ × List ℕ → Answer (List ℕ × List ℕ) = λ x. on_given (load_fits_lem (length x.0) (total x.0) (entry_room_lem w) (length d) (length w.text)) (λ _. gives x) in
    let a = gave (streams_fit_lem (length s) (length d) (length w.text)) (λ _. on_given (pool_entries_lem s) fitting) z.first z.is in
    let sizes = streams_fit (length s) (length d) (length w.text) a.is in
    let g = gave (pool_entries_lem s) fitting z.first a.then' in
    let b = gave (load_fits_lem (length g.first.0) (total g.first.0) (entry_room_lem w) (length d) (length w.text)) (λ _. gives g.first) z.first g.then' in
    let same : g.first ≡ z.first = ap (given z.first) b.then' in
    let ls : List ℕ = z.first.0 in
    let fits = load_fits (length ls) (total ls) (entry_room_lem w) (length d) (length w.text) (subst (λ (x : List ℕ × List ℕ). load_fits_lem (length x.0) (total x.0) (entry_room_lem w) (length d) (length w.text) ≡ gives tt) same b.is) in
    record {
      ls = ls;
      cs = z.first.1;
      entries = g.is ∙ ap gives same;
      marked = sizes.3;
      stream = sizes.0;
      size = sizes.2;
      few = fits.0;
      room = fits.1;
      in_data = fits.2;
      in_text = fits.3;
      pool = sym (ap (λ (x : Answer (StringPool × Rooms)). (given (p, v) x).0) z.then');
      left = sym (ap (λ (x : Answer (StringPool × Rooms)). (given (p, v) x).1) z.then');
    }

-- ---- the entries read are small where they are free, and there are as many counts as lengths

pub record Good (x : List ℕ × List ℕ) : Type 0 where
  pub small : all_small_lem x.0 x.1 ≡ true
  pub even : length x.0 ≡ length x.1

pub bytes_drop : (k : ℕ) (s : List ℕ) → AreBytes s → AreBytes (drop k s)
bytes_drop k s h i = subst (λ (x : ℕ). x < 256) (sym (get_or-drop k s i 0)) (h (k + i))

abbrev SmallFound : Found → Type 0
SmallFound (one l c w k) = small_b l c ≡ true
SmallFound cut = Unit {0}
SmallFound (ends k) = Unit {0}

found_small : (s : List ℕ) → AreBytes s → {x : Found} → View s x → SmallFound x
found_small s b (at_end h) = tt
found_small s b is_cut = tt
found_small s b (narrow h z) = go (eqb (number_at 2 s 2) 0)
  where
    go : (t : Bool) → (when t then leb (number_at 2 s 0) 65535 else true) ≡ true
    go true = le-leb (number_at 2 s 0) 65535 (omega (arith, number_lt 2 s 0 b))
    go false = refl
found_small s b (broad h z c) = ap (λ (t : Bool). when t then leb (number_at 4 s 4) 65535 else true) (ne_eqb (number_at 2 s 2) 0 (λ q. omega arith))

pub good : (f : ℕ) (s : List ℕ) → AreBytes s → (x : List ℕ × List ℕ) → entries_in f s ≡ gives x → Good x
good zero s b x e = absurd (refused-gives e)
good (suc f) s b x e = go (entry_in s) refl e (λ k y q. good f (drop k s) (bytes_drop k s b) y q)
  where
    go : (v : Found) → entry_in s ≡ v → on_found v (λ k. entries_in f (drop k s)) ≡ gives x
        → ((k : ℕ) (y : List ℕ × List ℕ) → entries_in f (drop k s) ≡ gives y → Good y) → Good x
    go (one l c wide k) r q ih =
        let g = gave (entries_in f (drop k s)) (λ y. gives (l ∷ y.0, c ∷ y.1)) x q in
        let h = ih k g.first g.is in
        let m : small_b l c ≡ true = subst SmallFound r (found_small s b (view s)) in
        subst Good (ap (given x) g.then') (record { small = ap (λ (t : Bool). when t then all_small_lem g.first.0 g.first.1 else false) m ∙ h.small; even = ap suc h.even })
    go cut r q ih = absurd (refused-gives q)
    go (ends j) r q ih = subst Good (ap (given x) q) (record { small = refl; even = refl })

-- ---- the state

module _ (s d : List ℕ) (w : Rooms) (p : StringPool) (v : Rooms) (b : AreBytes s) (l : IsLoaded s d w p v) where
  pub good_load : Good (l.ls, l.cs)
  good_load = good (length s) (drop 4 s) (bytes_drop 4 s b) (l.ls, l.cs) l.entries

  abbrev After : Rooms
  After = rooms (l.ls over w.lengths) (l.cs over w.counts) (take (total l.ls) d over w.text)

  text-length : length After.text ≡ length w.text
  text-length =
      let k : length (take (total l.ls) d) ≡ total l.ls = length-take-le (total l.ls) d l.in_data in
      omega (arith, l.in_text, length-append (take (total l.ls) d) (drop (length (take (total l.ls) d)) w.text), length-drop (length (take (total l.ls) d)) w.text)

  -- the lengths and the counts of the state are those of the stream
  pub lengths-in : take (length l.ls) (l.ls over w.lengths) ≡ l.ls
  lengths-in = take_at l.ls (drop (length l.ls) w.lengths) (length l.ls) refl

  pub counts-in : take (length l.ls) (l.cs over w.counts) ≡ l.cs
  counts-in = take_at l.cs (drop (length l.cs) w.counts) (length l.ls) (sym good_load.even)

  fits : SoundFit (pool_from_lem s (length l.ls)) After
  fits = record {
    fit = record {
      lengths = omega (arith, length-append l.ls (drop (length l.ls) w.lengths));
      counts = omega (arith, good_load.even, length-append l.cs (drop (length l.cs) w.counts));
      text = omega (arith, l.in_text, ap total lengths-in, text-length);
    };
    few = l.few;
    page = omega arith;
    small = ap₂ all_small_lem lengths-in counts-in ∙ good_load.small;
  }

  pub loaded-fits : SoundFit p v × (length v.text ≡ length w.text)
  loaded-fits =
      subst (λ (x : StringPool). SoundFit x v × (length v.text ≡ length w.text)) (sym l.pool)
      (subst (λ (x : Rooms). SoundFit (pool_from_lem s (length l.ls)) x × (length x.text ≡ length w.text)) (sym l.left) (fits, text-length))

pub loads_sound : LoadsSound
loads_sound s d w p v b e =
    let l = is-loaded s d w p v e in
    let f = loaded-fits s d w p v b l in
    (omega (arith, f.1, l.size), fit-sound p v f.0)

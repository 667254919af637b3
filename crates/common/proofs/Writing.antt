-- A loop that writes a result over a room from the place `start` on, one element a turn, and knows what is left of the result.
-- `Writing before start result left out at`: the first `at` elements of `result` are written, `left` is still to come, and the room is `out`.
--     begin       nothing is written yet
--     kept        the room keeps its length
--     room        where an element is to come, it has a place
--     step        a store of that element
--     rooms steps the same of several elements
--     count       where nothing is to come, `at` is the result's length
--     done        and the room has the result over it; from its front on, it is `result over before`
use Prim.Native.Nat.{ℕ, suc, ◌+◌, ◌≤◌, ◌<◌}
use mathlib.Core.Path.{◌≡◌, refl, sym, ap, ◌∙◌}
use mathlib.Core.List.{List, [], ◌∷◌, ◌++◌}
use native.Mathlib.Numerals.{add-one}
use native.Mathlib.Omega.{arith}
use lib.ListN.{length, take, drop, set, get_or, length-append, length-drop}
use lib.Seq.{drop-cons, drop-drop, drop_at, take-add, take_at, take-length, length-take-le, paste}
use Rattle.common.specs.Lists.{◌over◌, over_at}
use Rattle.common.proofs.Run.{Run, run-start, run-turn, run_end}
use Rattle.common.proofs.Parts.{paste_over, over_next, length-over_at}

pub record Writing {A : Type 0} (before : List A) (start : ℕ) (result left out : List A) (at : ℕ) : Type 0 where
  pub run : Run before start result (length result) out at
  pub rest : drop at result ≡ left
  pub fits : start + length result ≤ length before

pub begin : {A : Type 0} {before : List A} {start : ℕ} {result : List A} → start + length result ≤ length before → Writing before start result result before 0
begin h = record { run = run-start _ _ _ _; rest = refl; fits = h }

module _ {A : Type 0} {before : List A} {start : ℕ} {result left out : List A} {at : ℕ} (w : Writing before start result left out at) where
  pub kept : length out ≡ length before
  kept = w.run.long

  pub counted : at + length left ≡ length result
  counted = omega (arith, w.run.within, simp length-drop at (ap length w.rest))

  module _ (end : left ≡ []) where
    pub count : at ≡ length result
    count = omega (arith, counted, ap length end)

    pub done : out ≡ over_at start result before
    done = run_end w.run (omega (arith, count)) ∙ paste_over start (length result) result before (omega arith) ∙ rw take-length

  module _ {a : A} {more : List A} (next : left ≡ a ∷ more) where
    within : at < length result
    within = omega (arith, counted, ap length next)

    pub room : start + at < length out
    room = omega (arith, within, kept, w.fits)

    from-here : get_or result at a ∷ drop (suc at) result ≡ a ∷ more
    from-here = sym (drop-cons result at a within) ∙ w.rest ∙ next

    pub step : (p : ℕ) → p ≡ start + at → Writing before start result more (set out p a) (at + 1)
    step p e =
        let head : a ≡ get_or result at a = cc from-here in
        let tail : drop (suc at) result ≡ more = cc from-here in
        rw e (record { run = run-turn a a w.fits (omega arith) w.run within head; rest = rw add-one tail; fits = w.fits })

  -- several elements at once
  module _ (x more : List A) (next : left ≡ x ++ more) where
    longer : length left ≡ length x + length more
    longer = ap length next ∙ length-append x more

    pub rooms : start + at + length x ≤ length out
    rooms = omega (arith, counted, longer, kept, w.fits)

    pub steps : (p : ℕ) → p ≡ start + at → Writing before start result more (over_at p x out) (at + length x)
    steps p e =
        let n : at + length x ≤ length result = omega (arith, counted, longer) in
        let now : out ≡ over_at start (take at result) before = w.run.stands ∙ paste_over start at result before (omega arith) in
        let more-is : drop (at + length x) result ≡ more =
        sym (drop-drop (length x) at result) ∙ ap (drop (length x)) (w.rest ∙ next) ∙ drop_at x more (length x) refl in
        let front : take at result ++ x ≡ take (at + length x) result =
        sym (take-add at (length x) result ∙ ap (λ (l : List A). take at result ++ l) (ap (take (length x)) (w.rest ∙ next) ∙ take_at x more (length x) refl)) in
        let then : over_at (start + at) x out ≡ paste before start result (at + length x) =
        ap (over_at (start + at) x) now ∙ over_next (take at result) x before start at (omega (arith, w.fits)) (length-take-le at result (omega arith))
        ∙ ap (λ (l : List A). over_at start l before) front ∙ sym (paste_over start (at + length x) result before n) in
        rw e
        (record {
          run = record { within = n; long = length-over_at (start + at) x out (omega (arith, rooms)) ∙ kept; stands = then };
          rest = more-is;
          fits = w.fits;
        })

-- the same at the front of a room
module _ {A : Type 0} {before result left out : List A} {at : ℕ} (w : Writing before 0 result left out at) where
  pub done_front : left ≡ [] → out ≡ result over before
  done_front end = done w end

  pub room-front : {a : A} {more : List A} → left ≡ a ∷ more → at < length out
  room-front next = omega (arith, room w next)

  pub steps_front : (x more : List A) → left ≡ x ++ more → Writing before 0 result more (over_at at x out) (at + length x)
  steps_front x more next = steps w x more next at (omega arith)

  pub step_front : {a : A} {more : List A} → left ≡ a ∷ more → Writing before 0 result more (set out at a) (at + 1)
  step_front next = step w next at (omega arith)

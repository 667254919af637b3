-- A result over a part of a room, and a part of a lent slice that comes back: `&mut s[a..]` and `&mut s[a..e]`.
use Prim.Native.Nat.{ℕ, ◌+◌, ◌-◌, ◌≤◌, ◌<◌}
use mathlib.Core.Path.{◌≡◌, refl, sym, ap, ◌∙◌}
use mathlib.Core.List.{List, [], ◌∷◌, ◌++◌, append-nil, append_assoc}
use native.Mathlib.Numerals.{add-one}
use native.Mathlib.Omega.{arith}
use native.Mathlib.Nat.{not-suc-le-zero}
use lib.ListN.{length, take, drop, set, length-append, length-drop, length-set, drop_of_length-le, take-append-drop}
use lib.Seq.{take_all, drop-length, drop-drop, take_at, drop_at, take-append-add, drop-append-add, length-take-le, set_split, paste}
use borrow.Rule.Slice.PartMut.{put_mid, same_len_mid}
use Rattle.common.specs.Lists.{◌over◌, over_at}

-- ---- a result over a room

module _ {A : Type 0} where
  pub length-over_at : (at : ℕ) (x room : List A) → at + length x ≤ length room → length (over_at at x room) ≡ length room
  length-over_at at x room h =
      let l : length (take at room) ≡ at = length-take-le at room (omega arith) in
      simp (length-append, length-drop) (omega arith)

  -- as many elements as the room has: they are all of it
  pub over_all : (x room : List A) → length x ≡ length room → x over room ≡ x
  over_all x room e = rw (e, drop-length, append-nil)

  pub over_none : (at : ℕ) (room : List A) → over_at at [] room ≡ room
  over_none at room = take-append-drop at room

  -- the toolchain's name for the first n elements of x written over a list
  pub paste_over : (at n : ℕ) (x room : List A) → n ≤ length x → paste room at x n ≡ over_at at (take n x) room
  paste_over at n x room h = rw (length-take-le n x h, append_assoc, drop-drop)

  pub paste_front : (x room : List A) (n : ℕ) → length x ≡ n → paste room 0 x n ≡ x over room
  paste_front x room n e = paste_over 0 n x room (omega arith) ∙ rw (take_all n x (omega arith))

  -- a result after another
  pub over_append : (x y room : List A) (n : ℕ) → length x ≡ n → take n (x over room) ++ (y over drop n (x over room)) ≡ (x ++ y) over room
  over_append x y room n e = rw (take_at x (drop (length x) room) n e, drop_at x (drop (length x) room) n e, drop-drop, length-append, append_assoc)

  pub over_next : (x y room : List A) (at w : ℕ) → at ≤ length room → length x ≡ w → over_at (at + w) y (over_at at x room) ≡ over_at at (x ++ y) room
  over_next x y room at w h e =
      let l : length (take at room) ≡ at = length-take-le at room h in
      let all : List A = take at room ++ (x over drop at room) in
      let t : take (at + w) all ≡ take at room ++ take w (x over drop at room) =
      ap (λ (k : ℕ). take (k + w) all) (sym l) ∙ take-append-add (take at room) (x over drop at room) w in
      let d : drop (at + w) all ≡ drop w (x over drop at room) =
      ap (λ (k : ℕ). drop (k + w) all) (sym l) ∙ drop-append-add (take at room) (x over drop at room) w in
      rw (t, d, append_assoc, over_append x y (drop at room) w e)

  -- a store is one element over the room, and a second store a second one after it
  pub set-over : (at : ℕ) (a : A) (room : List A) → at < length room → set room at a ≡ over_at at (a ∷ []) room
  set-over at a room h = rw (set_split room at a h, drop-drop, add-one)

  pub set-over_two : (at : ℕ) (a b : A) (room : List A) → at + 1 < length room → set (set room at a) (at + 1) b ≡ over_at at (a ∷ b ∷ []) room
  set-over_two at a b room h =
      let first : set room at a ≡ over_at at (a ∷ []) room = set-over at a room (omega arith) in
      rw (set-over (at + 1) b (set room at a) (simp length-set (omega arith)), first) (over_next (a ∷ []) (b ∷ []) room at 1 (omega arith) refl)

  -- a store, and then what comes after it
  pub over_set : (a : A) (x room : List A) (at : ℕ) → at < length room → over_at (at + 1) x (set room at a) ≡ over_at at (a ∷ x) room
  over_set a x room at h = rw (set-over at a room h) (over_next (a ∷ []) x room at 1 (omega arith) refl)

-- ---- the part that runs to the end

module _ {A : Type 0} (a : ℕ) (xs : List A) where
  pub tail_part : take (length xs - a) (drop a xs) ≡ drop a xs
  tail_part = take_all (length xs - a) (drop a xs) (simp length-drop (omega arith))

  pub put_tail : (ys : List A) → a ≤ length xs → put_mid a (length xs - a) xs ys ≡ take a xs ++ ys
  put_tail ys h = rw (drop_of_length-le (drop a xs) {i = length xs - a} (simp length-drop (omega arith)), append-nil)

  pub length-tail : length (take (length xs - a) (drop a xs)) ≡ length xs - a
  length-tail = rw tail_part (length-drop a xs)

  -- what a callee leaves in `&mut xs[a..]`, seen from the lender
  pub tail_over : (x : List A) → a ≤ length xs → put_mid a (length xs - a) xs (x over take (length xs - a) (drop a xs)) ≡ over_at a x xs
  tail_over x h = rw tail_part (put_tail (x over drop a xs) h)

-- a turn of a loop that lends `&mut out[at..]` to a callee that puts x at its front: x, and then y, is y after x
pub lent_turn : {A : Type 0} (x y out last : List A) (at w : ℕ) → at ≤ length out → length x ≡ w
    → last ≡ x over take (length out - at) (drop at out)
    → over_at (at + w) y (put_mid at (length out - at) out last) ≡ over_at at (x ++ y) out
lent_turn x y out last at w h e l = rw (l, tail_over at out x h) (over_next x y out at w h e)

-- what a callee leaves in `&mut out[at..at + k]`, which it fills
pub exact_over : {A : Type 0} (x out : List A) (at k : ℕ) → at + k ≤ length out → length x ≡ k
    → put_mid at k out (x over take k (drop at out)) ≡ over_at at x out
exact_over x out at k h e =
    let n : length (take k (drop at out)) ≡ k = length-take-le k (drop at out) (rw length-drop (omega arith)) in
    let none : drop k (take k (drop at out)) ≡ [] = drop_of_length-le (take k (drop at out)) {i = k} (omega arith) in
    rw (e, none, append-nil)

-- the same of a callee that leaves its result there
pub filled_part : {A : Type 0} (x out last : List A) (at k : ℕ) → last ≡ x → length x ≡ k → at + k ≤ length out → put_mid at k out last ≡ over_at at x out
filled_part x out last at k e l h =
    let m : length (take k (drop at out)) ≡ k = length-take-le k (drop at out) (simp length-drop (omega arith)) in
    ap (put_mid at k out) (e ∙ sym (over_all x (take k (drop at out)) (omega arith))) ∙ exact_over x out at k h l

-- ---- the first element is stored, and the rest of the result goes to the part after it

module _ {A : Type 0} (out : List A) (a : A) where
  pub length_rest : length (take (length (set out 0 a) - 1) (drop 1 (set out 0 a))) ≡ length out - 1
  length_rest = rw (length-tail 1 (set out 0 a), length-set)

  pub length-prefixed : (last : List A) → length last ≡ length (take (length (set out 0 a) - 1) (drop 1 (set out 0 a)))
      → length (put_mid 1 (length (set out 0 a) - 1) (set out 0 a) last) ≡ length out
  length-prefixed last e = same_len_mid 1 (length (set out 0 a) - 1) (set out 0 a) last e ∙ length-set out 0 a

  pub prefixed : (w last : List A) → 0 < length out → last ≡ w over take (length (set out 0 a) - 1) (drop 1 (set out 0 a))
      → put_mid 1 (length (set out 0 a) - 1) (set out 0 a) last ≡ (a ∷ w) over out
  prefixed w last h e = put_tail 1 (set out 0 a) last (simp length-set (omega arith)) ∙ rw (e, tail_part 1 (set out 0 a)) (go out h)
    where
      go : (l : List A) → 0 < length l → take 1 (set l 0 a) ++ (w over drop 1 (set l 0 a)) ≡ (a ∷ w) over l
      go [] h = absurd (not-suc-le-zero h)
      go (x ∷ r) h = refl

-- `splice`, by the stores that make it: the later bytes move, the new text is written, and what is given up becomes 0.
use mathlib.Core.Path.{◌≡◌, refl, sym, ap, ap₂, ◌∙◌}
use Prim.Native.Nat.{ℕ, ◌+◌, ◌-◌, ◌≤◌, ◌<◌, max}
use native.Mathlib.Omega.{arith}
use borrow.Author.Tests.{le-ltb}
use Rattle.common.specs.Lists.{◌over◌}
use Rattle.common.specs.Answers.{gives, outcome, written_to}
use mathlib.Core.List.{List, ◌++◌, append_assoc, append-nil}
use lib.ListN.{length, take, drop, replicate, length-append, length-drop, length-replicate}
use lib.Seq.{paste, take_at, drop_at, take-append-le, drop-append-add, drop-drop, take-take, take-length, take_all, length-take-le}
use borrow.Rule.Slice.PartMut.{put_mid}
use Rattle.std.proofs.lemmas.Slice.{put_mid-paste}
use Rattle.text_room.specs.Texts.{splice, copy_outcome}

-- the used part after the replacement
abbrev pub front : List ℕ → ℕ → ℕ → ℕ → List ℕ → List ℕ
front ts start old used new = take start ts ++ new ++ take (used - (start + old)) (drop (start + old) ts)

pub length_front : (ts : List ℕ) (start old used : ℕ) (new : List ℕ) → start + old ≤ used → used ≤ length ts
    → length (front ts start old used new) ≡ used - old + length new
length_front ts start old used new h hu =
    let a : length (take start ts) ≡ start = length-take-le start ts (omega arith) in
    let b : length (take (used - (start + old)) (drop (start + old) ts)) ≡ used - (start + old) =
    length-take-le (used - (start + old)) (drop (start + old) ts) (simp length-drop (omega arith)) in
    simp length-append (omega arith)

module _ (ts : List ℕ) (start old used : ℕ) (new : List ℕ)
    (h : start + old ≤ used) (hu : used ≤ length ts) (room : used - old + length new ≤ length ts) where
  -- the later bytes are moved, and the new text is written over its part
  pub splice-two : (t₁ part : List ℕ)
      → t₁ ≡ paste ts (start + length new) (drop (start + old) ts) (used - (start + old))
      → part ≡ new
      → put_mid start (start + length new - start) t₁ part ≡ front ts start old used new ++ drop (used - old + length new) ts
  splice-two t₁ part e₁ e =
      let to : ℕ = start + length new in
      let A : List ℕ = take to ts in
      let M : List ℕ = take (used - (start + old)) (drop (start + old) ts) in
      let R : List ℕ = drop (to + (used - (start + old))) ts in
      let la : length A ≡ to = length-take-le to ts (omega arith) in
      let f₁ : take start (A ++ M ++ R) ≡ take start ts =
      take-append-le start (A ++ M) R (simp length-append (omega arith)) ∙ take-append-le start A M (omega arith) ∙ take-take start to ts (omega arith) in
      let f₂ : drop to (A ++ M ++ R) ≡ M ++ R = ap (drop to) (append_assoc A M R) ∙ drop_at A (M ++ R) to la in
      let f₃ : to + (used - (start + old)) ≡ used - old + length new = omega arith in
      put_mid-paste start (start + length new - start) t₁ part new (length new) e (omega arith) refl
      ∙ ap (λ (t : List ℕ). take start t ++ take (length new) new ++ drop to t) e₁
      ∙ ap₂ (λ (x y : List ℕ). x ++ take (length new) new ++ y) f₁ f₂
      ∙ ap (λ (x : List ℕ). take start ts ++ x ++ (M ++ R)) (take-length new)
      ∙ sym (append_assoc (take start ts ++ new) M R)
      ∙ ap (λ (k : ℕ). take start ts ++ new ++ M ++ drop k ts) f₃

  -- nothing is given up
  pub splice-more : (t₂ : List ℕ) → used ≤ used - old + length new
      → t₂ ≡ front ts start old used new ++ drop (used - old + length new) ts → t₂ ≡ splice ts start old used new
  unfolding splice
  splice-more t₂ more e =
      let F : List ℕ = front ts start old used new in
      let z : old - length new ≡ 0 = omega arith in
      let m : max used (used - old + length new) ≡ used - old + length new = omega arith in
      e ∙ ap (λ (l : List ℕ). l ++ drop (used - old + length new) ts) (sym (append-nil F))
      ∙ sym (ap₂ (λ (i k : ℕ). F ++ replicate i 0 ++ drop k ts) z m)

  -- what is given up is filled with 0
  pub splice-less : (t₂ part : List ℕ) → used - old + length new < used
      → t₂ ≡ front ts start old used new ++ drop (used - old + length new) ts
      → part ≡ replicate (length (take (used - (used - old + length new)) (drop (used - old + length new) t₂))) 0
      → put_mid (used - old + length new) (used - (used - old + length new)) t₂ part ≡ splice ts start old used new
  unfolding splice
  splice-less t₂ part less e f =
      let F : List ℕ = front ts start old used new in
      let end : ℕ = used - old + length new in
      let R : List ℕ = drop end ts in
      let z : ℕ = used - end in
      let zs : List ℕ = replicate z 0 in
      let lf : length F ≡ end = length_front ts start old used new h hu in
      let lt : length t₂ ≡ length ts = ap length e ∙ length-append F R ∙ omega (arith, lf, length-drop end ts) in
      let lz : length (take z (drop end t₂)) ≡ z = length-take-le z (drop end t₂) (simp length-drop (omega arith)) in
      let f₂ : take z zs ≡ zs = take_all z zs (simp length-replicate (omega arith)) in
      let f₃ : drop (end + z) (F ++ R) ≡ drop (end + z) ts =
      ap (λ (k : ℕ). drop (k + z) (F ++ R)) (sym lf) ∙ drop-append-add F R z ∙ drop-drop z end ts in
      let g₁ : z ≡ old - length new = omega arith in
      let g₂ : end + z ≡ max used (used - old + length new) = omega arith in
      put_mid-paste end z t₂ part zs z (f ∙ ap (λ (n : ℕ). replicate n 0) lz) (omega arith) (sym (length-replicate z 0))
      ∙ ap (λ (t : List ℕ). take end t ++ take z zs ++ drop (end + z) t) e
      ∙ ap₂ (λ (x y : List ℕ). x ++ take z zs ++ y) (take_at F R end lf) f₃
      ∙ ap (λ (x : List ℕ). F ++ x ++ drop (end + z) ts) f₂
      ∙ ap₂ (λ (i k : ℕ). F ++ replicate i 0 ++ drop k ts) g₁ g₂

-- ---- bytes copied into an output

-- bytes within the size are written where they have room
pub copy_small : (bytes out : List ℕ) → length bytes ≤ 268435455 → outcome out (written_to out bytes) ≡ copy_outcome bytes out
copy_small bytes out small = simp (le-ltb _ _ small)

-- and so they are where they have
pub copied : (bytes out : List ℕ) → length bytes ≤ 268435455 → length bytes ≤ length out → copy_outcome bytes out ≡ (gives (length bytes), bytes over out)
copied bytes out small room = simp (le-ltb _ _ small, le-ltb _ _ room)

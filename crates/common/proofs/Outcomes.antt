-- An answer taken apart at its tests, in document 01's order.
use mathlib.Core.Path.{◌≡◌, refl, ap, ap₂}
use Prim.Native.Nat.{ℕ, ◌≤◌}
use mathlib.Core.List.{List}
use lib.ListN.{length}
use borrow.Author.Tests.{ltb-false}
use mathlib.Core.Bool.{Bool, true, false}
use Rattle.common.specs.Choice.{when◌then◌else◌, ◌<?◌}
use Rattle.common.specs.Lists.{◌over◌}
use Rattle.common.specs.Answers.{Place, nowhere, Answer, gives, refused, on_given, outcome, written_to}
use Rattle.common.proofs.Bools.{clash}

-- the answer is a refusal, or it gives y and P holds
pub data Case {A : Type 0} (x : Answer A) (y : A) (P : Type 0) : Type 0 where
  no : (n : ℕ) (at : Place) → x ≡ refused n at → Case x y P
  yes : x ≡ gives y → P → Case x y P

-- a test that refuses, and then the rest
pub test : {A : Type 0} {x : Answer A} {y : A} {P : Type 0} (b : Bool) (n : ℕ) (at : Place) → (b ≡ false → Case x y P) → Case (when b then refused n at else x) y P
test true n at f = no n at refl
test false n at f = f refl

-- a refusal gives nothing
pub refused-gives : {A : Type 0} {y : A} {n : ℕ} {at : Place} → refused n at ≡ gives y → ⊥
refused-gives e = clash (cc)

-- an answer that gives y was refused by no test on the way
pub past : {A : Type 0} {x : Answer A} {y : A} (b : Bool) (n : ℕ) (at : Place) → (when b then refused n at else x) ≡ gives y → (b ≡ false) × (x ≡ gives y)
past true n at e = clash (cc)
past false n at e = (refl, e)

-- an outcome that gives y comes of an answer that does
pub outcome-gives : {A W : Type 0} (was : W) {w : W} {y : A} (a : Answer (A × W)) → outcome was a ≡ (gives y, w) → a ≡ gives (y, w)
outcome-gives was {w} {y} (gives x) e =
    let given : gives x.0 ≡ gives y = ap (λ (o : _). o.0) e in
    let left : x.0 ≡ y = cc in
    ap₂ (λ (a : _) (v : _). gives (a, v)) left (ap (λ (o : _). o.1) e)
outcome-gives was (refused n at) e = absurd (refused-gives (ap (λ (o : _). o.0) e))

-- what was written had room
pub wrote : {A B : Type 0} (out result : List A) (more : ℕ × List A → Answer B) {y : B} → on_given (written_to out result) more ≡ gives y
    → (length result ≤ length out) × (more (length result, result over out) ≡ gives y)
wrote out result more {y} e = go (length out <? length result) refl e
  where
    go : (b : Bool) → (length out <? length result) ≡ b → on_given (when b then refused 7 nowhere else gives (length result, result over out)) more ≡ gives y
        → (length result ≤ length out) × (more (length result, result over out) ≡ gives y)
    go true f e = clash (cc)
    go false f e = (ltb-false _ _ f, e)

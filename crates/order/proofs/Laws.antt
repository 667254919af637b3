-- What is known where no refusal is met.
use mathlib.Core.Path.{◌≡◌, refl}
use Prim.Native.Nat.{ℕ, ◌≤◌, ◌<◌}
use native.Mathlib.Omega.{arith}
use mathlib.Core.Bool.{Bool, not, ◌&&◌, ◌||◌}
use lib.Dec.{ltb, leb, eqb}
use borrow.Author.Tests.{ltb-false, leb-false, eqb-false, le-ltb}
use Rattle.common.specs.Answers.{Answer, gives, refused, nowhere, on_given}
use Rattle.common.proofs.Bools.{neither}
use Rattle.common.proofs.Outcomes.{Case, no, past}
use Rattle.order.specs.Order.{page_fits_lem, streams_fit_lem, load_fits_lem, text_fits, add_fits_lem, drop_fits_lem}

-- an order that is judged, and then the rest
pub ordered : {A : Type 0} {x : Answer A} {y : A} {P : Type 0} (a : Answer (Unit {0})) → (a ≡ gives tt → Case x y P) → Case (on_given a (λ _. x)) y P
ordered (gives tt) f = f refl
ordered (refused n at) f = no n at refl

pub page_fits : (page : ℕ) → page_fits_lem page ≡ gives tt → page ≤ 2147483647
page_fits page e = ltb-false _ _ (past (ltb 2147483647 page) 21 nowhere e).0

pub streams_fit : (pool stream text : ℕ) → streams_fit_lem pool stream text ≡ gives tt
    → (pool ≤ 268435455) × (stream ≤ 268435455) × (text ≤ 268435455) × (4 ≤ pool)
streams_fit pool stream text e =
    let a = past (ltb 268435455 pool || ltb 268435455 stream || ltb 268435455 text) 22 nowhere e in
    let b = past (ltb pool 4) 1 nowhere a.1 in
    let n = neither (ltb 268435455 pool || ltb 268435455 stream) (ltb 268435455 text) a.0 in
    let m = neither (ltb 268435455 pool) (ltb 268435455 stream) n.0 in
    (ltb-false _ _ m.0, ltb-false _ _ m.1, ltb-false _ _ n.1, ltb-false _ _ b.0)

pub streams_do : (pool stream text : ℕ) → pool ≤ 268435455 → stream ≤ 268435455 → text ≤ 268435455 → 4 ≤ pool → streams_fit_lem pool stream text ≡ gives tt
streams_do pool stream text a b c d = simp (le-ltb _ _ a, le-ltb _ _ b, le-ltb _ _ c, le-ltb _ _ d)

pub load_fits : (n used entries stream text : ℕ) → load_fits_lem n used entries stream text ≡ gives tt
    → (n ≤ 16777215) × (n ≤ entries) × (used ≤ stream) × (used ≤ text)
load_fits n used entries stream text e =
    let a = past (ltb 16777215 n) 3 nowhere e in
    let b = past (ltb entries n) 4 nowhere a.1 in
    let c = past (ltb stream used) 5 nowhere b.1 in
    let d = past (ltb text used) 6 nowhere c.1 in
    (ltb-false _ _ a.0, ltb-false _ _ b.0, ltb-false _ _ c.0, ltb-false _ _ d.0)

pub text-fits : (after text : ℕ) → text_fits after text ≡ gives tt → after ≤ text
text-fits after text e = ltb-false _ _ (past (ltb text after) 6 nowhere e).0

pub add-fits : (long : Bool) (n entries after text : ℕ) → add_fits_lem long n entries after text ≡ gives tt → (n < 16777215) × (n < entries) × (after ≤ text)
add-fits long n entries after text e =
    let a = past (not long && leb 65535 n) 11 nowhere e in
    let b = past (leb 16777215 n) 12 nowhere a.1 in
    let c = past (leb entries n) 4 nowhere b.1 in
    (leb-false _ _ b.0, leb-false _ _ c.0, text-fits after text c.1)

pub drop-fits : (n place count : ℕ) → drop_fits_lem n place count ≡ gives tt → (place < n) × (0 < count)
drop-fits n place count e =
    let a = past (leb n place) 9 nowhere e in
    let b = past (eqb count 0) 10 nowhere a.1 in
    let z : count ≡ 0 → ⊥ = eqb-false _ _ b.0 in
    (leb-false _ _ a.0, omega (arith, z))

-- The laws of `decoded` that the loops go by.
use Prim.Native.Nat.{ℕ, ◌+◌, ◌-◌, ◌*◌, ◌/◌, ◌%◌, ◌≤◌, ◌<◌}
use mathlib.Core.Path.{◌≡◌, refl, ap}
use Rattle.std.specs.List.{sum_by}
use Rattle.std.proofs.lemmas.List.Sums.{sum_by-cons}
use mathlib.Core.Bool.{Bool, true, false}
use mathlib.Core.List.{List, [], ◌∷◌, ◌++◌}
use native.Mathlib.Omega.{arith}
use native.Mathlib.Numerals.{add-one}
use lib.ListN.{length, drop, get_or, drop_of_length-le, length-append}
use lib.Seq.{drop-cons}
use borrow.Author.Tests.{lt-ltb, le-ltb}
use Rattle.streamname.specs.Letters.{from_b64_lem}
use Rattle.common.specs.Lists.{◌over◌}
use Rattle.common.specs.Choice.{when◌then◌else◌}
use Rattle.common.specs.Sizes.{max_name, max_stored}
use Rattle.common.specs.Answers.{gives, refused, nowhere}
use Rattle.streamname.specs.Names.{between, undone, decoded, is_table, decoded_name}
use Rattle.streamname.specs.Calls.{decode_outcome}
use Rattle.streamname.specs.inner.Packing.{units_of}
use Rattle.streamname.specs.declared.decoding.Unpacked.{Unpacked}
use Rattle.streamname.specs.declared.decoding.Unpacked.TheVariants.{One, Two}
use Rattle.streamname.proofs.LetterLaws.{inside, outside}

module _ (v : ℕ) where
  pub undone-two : 0x3800 ≤ v → v ≤ 0x47FF → from_b64_lem ((v - 0x3800) % 64) ∷ from_b64_lem ((v - 0x3800) / 64) ∷ [] ≡ undone v
  unfolding undone
  undone-two p q = simp (inside 0x3800 0x47FF v p q)

  pub undone-one : 0x4800 ≤ v → v ≤ 0x483F → from_b64_lem (v - 0x4800) ∷ [] ≡ undone v
  unfolding undone
  undone-one p q = simp (outside 0x3800 0x47FF v (omega arith), inside 0x4800 0x483F v p q)

  pub undone-other : (0x3800 ≤ v → 0x483F < v) → v ∷ [] ≡ undone v
  unfolding undone
  undone-other h = simp (outside 0x3800 0x47FF v (λ p. omega (arith, h p)), outside 0x4800 0x483F v (λ p. h (omega arith)))

pub ruleset undoing = (undone-two, undone-one, undone-other)

-- what stands in front is undone, and the rest follows
pub decoded-next : (stored : List ℕ) (i : ℕ) (u : Unpacked) → i < length stored → units_of u ≡ undone (get_or stored i 0)
    → decoded (drop i stored) ≡ units_of u ++ decoded (drop (i + 1) stored)
unfolding decoded
decoded-next stored i u h e = rw (e, add-one, drop-cons stored i 0 h)

pub short : (u : Unpacked) → length (units_of u) ≤ 2
short (One a) = omega arith
short (Two a b) = omega arith

-- a stored unit stands for one unit or two
undone-short : (v : ℕ) → length (undone v) ≤ 2
unfolding undone
undone-short v = go (between 0x3800 0x47FF v) (between 0x4800 0x483F v)
  where
    go : (p q : Bool) → length (when p then from_b64_lem ((v - 0x3800) % 64) ∷ from_b64_lem ((v - 0x3800) / 64) ∷ [] else when q then from_b64_lem (v - 0x4800) ∷ [] else v ∷ []) ≤ 2
    go true q = omega arith
    go false true = omega arith
    go false false = omega arith

pub decoded_short : (stored : List ℕ) → length (decoded stored) ≤ length stored * 2
unfolding decoded
decoded_short [] = omega arith
decoded_short (v ∷ rest) = simp length-append (omega (arith, undone-short v, decoded_short rest))

-- the lengths of what its units stand for sum to its own
pub decoded-length : (stored : List ℕ) → length (decoded stored) ≡ sum_by (λ v. length (undone v)) stored
unfolding decoded
decoded-length [] = refl
decoded-length (v ∷ rest) = simp length-append (rw sum_by-cons (ap (λ n. length (undone v) + n) (decoded-length rest)))

-- past the end nothing is left
pub decoded-end : (stored : List ℕ) (i : ℕ) → length stored ≤ i → decoded (drop i stored) ≡ []
unfolding decoded
decoded-end stored i h = rw (drop_of_length-le stored h)

-- `decode` refused, and past its refusals
module _ (stored out : List ℕ) where
  pub decode_over : max_stored < length stored → (refused 22 nowhere, out) ≡ decode_outcome stored out
  decode_over h = rw (lt-ltb max_stored (length stored) h)

  module _ (h : length stored ≤ max_stored) where
    pub decode_long : max_name < length (decoded_name stored) → (refused 22 nowhere, out) ≡ decode_outcome stored out
    decode_long k = rw (le-ltb max_stored (length stored) h, lt-ltb max_name (length (decoded_name stored)) k)

    module _ (k : length (decoded_name stored) ≤ max_name) where
      pub decode_short : length out < length (decoded_name stored) → (refused 7 nowhere, out) ≡ decode_outcome stored out
      decode_short j =
          rw (le-ltb max_stored (length stored) h, le-ltb max_name (length (decoded_name stored)) k, lt-ltb (length out) (length (decoded_name stored)) j)

      pub decode_done : (r : ℕ) (t : Bool) (last : List ℕ) → length (decoded_name stored) ≤ length out
          → r ≡ length (decoded_name stored) → t ≡ is_table stored → last ≡ decoded_name stored over out → (gives (r, t), last) ≡ decode_outcome stored out
      decode_done r t last j e g f =
          rw (le-ltb max_stored (length stored) h, le-ltb max_name (length (decoded_name stored)) k, le-ltb (length out) (length (decoded_name stored)) j, e, g, f)

-- The laws of `encoded` that the loops go by: what stands in front of a name becomes one unit.
use Prim.Native.Nat.{ℕ, suc, ◌+◌, ◌*◌, ◌≤◌, ◌<◌}
use mathlib.Core.Path.{◌≡◌, refl, sym, ap, ◌∙◌}
use mathlib.Core.List.{List, [], ◌∷◌}
use mathlib.Core.Bool.{Bool, true, false, ◌&&◌, ◌||◌, and_assoc, and-true}
use Rattle.std.specs.Prelude.{Option, None, Some}
use native.Mathlib.Omega.{arith}
use native.Mathlib.Decide.{dec_lt}
use native.Mathlib.Numerals.{add-one}
use lib.ListN.{length, drop, get_or, drop_of_length-le}
use lib.Seq.{drop-cons}
use Rattle.streamname.specs.Letters.{to_b64_lem}
use Rattle.streamname.specs.Names.{encoded, greedy, pair, encoded_name, allowed}
use Rattle.streamname.specs.Calls.{encode_outcome}
use Rattle.streamname.specs.inner.Packing.{Front, Tallied}
use Rattle.streamname.specs.declared.encoding.Tally.{Tally}
use Rattle.streamname.proofs.AllowedLaws.{letter_allowed, every-next}
use Rattle.streamname.specs.declared.encoding.Packed.{Packed}
use Rattle.streamname.proofs.LetterLaws.{past_end}
use Rattle.common.proofs.Bools.{clash}
use Rattle.common.specs.Choice.{◌<?◌}
use Rattle.common.specs.Lists.{◌over◌, every}
use Rattle.common.specs.Sizes.{max_name}
use Rattle.common.specs.Answers.{gives, refused, nowhere}
use borrow.Author.Tests.{lt-ltb, le-ltb}

pub passes : (u : ℕ) (rest : List ℕ) → to_b64_lem u ≡ None → encoded (u ∷ rest) ≡ u ∷ encoded rest
unfolding encoded
passes u [] e = rw e
passes u (v ∷ r) e = rw e (apart (to_b64_lem v))
  where
    apart : (p : Option ℕ) → greedy (pair None p) (encoded r) (u ∷ encoded (v ∷ r)) ≡ u ∷ encoded (v ∷ r)
    apart (Some b) = refl
    apart None = refl

pub lone-last : (u a : ℕ) → to_b64_lem u ≡ Some a → encoded (u ∷ []) ≡ (0x4800 + a) ∷ encoded []
unfolding encoded
lone-last u a e = rw e

pub lone : (u a v : ℕ) (rest : List ℕ) → to_b64_lem u ≡ Some a → to_b64_lem v ≡ None → encoded (u ∷ v ∷ rest) ≡ (0x4800 + a) ∷ encoded (v ∷ rest)
unfolding encoded
lone u a v rest e f = rw (e, f)

pub paired : (u a v b : ℕ) (rest : List ℕ) → to_b64_lem u ≡ Some a → to_b64_lem v ≡ Some b → encoded (u ∷ v ∷ rest) ≡ (0x3800 + 64 * b + a) ∷ encoded rest
unfolding encoded
paired u a v b rest e f = rw (e, f)

add-two : (n : ℕ) → suc (n + 1) ≡ n + 2
add-two n = omega arith

-- a letter stands within the name
letter_within : (name : List ℕ) (at a : ℕ) → to_b64_lem (get_or name at 0) ≡ Some a → at < length name
letter_within name at a e = go (dec_lt at (length name))
  where
    go : Dec (at < length name) → at < length name
    go (yes h) = h
    go (no h) = let q : None ≡ Some a = past_end name at (omega arith) ∙ e in clash (cc)

-- the same at a place of the name, as `pack` finds it
module _ (name : List ℕ) (at : ℕ) (here : at < length name) where
  pub front_passes : to_b64_lem (get_or name at 0) ≡ None → Front name at (record { unit = get_or name at 0; used = 1 })
  front_passes e =
      record {
        packs = rw (add-one, drop-cons name at 0 here, passes _ _ e);
        judged = every-next name at here;
        within = omega arith;
        moves = omega arith;
      }

  module _ (a : ℕ) (e : to_b64_lem (get_or name at 0) ≡ Some a) where
    next : at + 1 < length name → drop (at + 1) name ≡ get_or name (at + 1) 0 ∷ drop (at + 2) name
    next more = rw (drop-cons name (at + 1) 0 more, add-two)

    two : at + 1 < length name → drop at name ≡ get_or name at 0 ∷ get_or name (at + 1) 0 ∷ drop (at + 2) name
    two more = rw (drop-cons name at 0 here, ← add-one, next more)

    lone-packs : to_b64_lem (get_or name (at + 1) 0) ≡ None → encoded (drop at name) ≡ (0x4800 + a) ∷ encoded (drop (at + 1) name)
    lone-packs f = go (dec_lt (at + 1) (length name))
      where
        go : Dec (at + 1 < length name) → encoded (drop at name) ≡ (0x4800 + a) ∷ encoded (drop (at + 1) name)
        go (yes more) = rw (two more, next more, lone _ a _ _ e f)
        go (no more) = rw (add-one, drop-cons name at 0 here, drop_of_length-le name {i = suc at} (omega arith), lone-last _ a e)

    pub front_lone : to_b64_lem (get_or name (at + 1) 0) ≡ None → Front name at (record { unit = 0x4800 + a; used = 1 })
    front_lone f =
        record {
          packs = lone-packs f;
          judged = every-next name at here;
          within = omega arith;
          moves = omega arith;
        }

    -- the pair's unit, however it is reckoned
    pub front_pair : (b unit : ℕ) → to_b64_lem (get_or name (at + 1) 0) ≡ Some b → unit ≡ 0x3800 + 64 * b + a → Front name at (record { unit = unit; used = 2 })
    front_pair b unit f is =
        let more : at + 1 < length name = letter_within name (at + 1) b f in
        record {
          packs = rw (two more, paired _ a _ b _ e f, is);
          judged = rw (two more, letter_allowed _ a e, letter_allowed _ b f);
          within = omega arith;
          moves = omega arith;
        }

-- what is tallied, one packed unit further: a pair leaves what is allowed as it is, any other unit is judged
module _ (name : List ℕ) (at : ℕ) (m : Tally) (p : Packed) (so_far : Tallied name at m) (f : Front name at p) where
  counted-on : (m.units + 1) + length (encoded (drop (at + p.used) name)) ≡ length (encoded name)
  counted-on = omega (arith, so_far.counted, ap length f.packs)

  judged-on : (t : Bool) → (1 <? p.used || allowed (get_or name at 0)) ≡ t → (m.allowed && t && every allowed (drop (at + p.used) name)) ≡ every allowed name
  judged-on t e = and_assoc m.allowed t _ ∙ ap (λ rest. m.allowed && rest) (ap (λ b. b && every allowed (drop (at + p.used) name)) (sym e) ∙ sym f.judged) ∙ so_far.judged

  pub tally-pair : 1 < p.used → Tallied name (at + p.used) (record { units = m.units + 1; allowed = m.allowed })
  tally-pair h =
      record {
        fewer = omega (arith, so_far.fewer, f.moves);
        within = f.within;
        counted = counted-on;
        judged = ap (λ b. b && every allowed (drop (at + p.used) name)) (sym (and-true m.allowed)) ∙ judged-on true (rw (lt-ltb 1 p.used h));
      }

  pub tally-one : p.used ≤ 1 → Tallied name (at + p.used) (record { units = m.units + 1; allowed = m.allowed && allowed (get_or name at 0) })
  tally-one h =
      record {
        fewer = omega (arith, so_far.fewer, f.moves);
        within = f.within;
        counted = counted-on;
        judged = judged-on (allowed (get_or name at 0)) (rw (le-ltb 1 p.used h));
      }

-- past the end nothing is left
pub encoded-end : (name : List ℕ) (i : ℕ) → length name ≤ i → encoded (drop i name) ≡ []
unfolding encoded
encoded-end name i h = rw (drop_of_length-le name h)

-- and all is tallied
pub tallied_all : (name : List ℕ) (at : ℕ) (m : Tally) → Tallied name at m → length name ≤ at → (m.units ≡ length (encoded name)) × (m.allowed ≡ every allowed name)
tallied_all name at m t h = (omega (arith, t.counted, ap length (encoded-end name at h)), sym (and-true m.allowed) ∙ (rw (drop_of_length-le name h) at t.judged))

pub ruleset tallying = (tally-pair, tally-one, tallied_all)

-- a packed name is no longer than the name
greedy-short : (p : Option ℕ) (x y : List ℕ) (n : ℕ) → length x < n → length y ≤ n → length (greedy p x y) ≤ n
greedy-short (Some u) x y n h k = h
greedy-short None x y n h k = k

pub encoded-short : (l : List ℕ) → length (encoded l) ≤ length l
unfolding encoded
encoded-short [] = omega arith
encoded-short (u ∷ []) = omega arith
encoded-short (u ∷ v ∷ r) =
    let two : length (encoded r) < length (u ∷ v ∷ r) = omega (arith, encoded-short r) in
    let one : length (0 ∷ encoded (v ∷ r)) ≤ length (u ∷ v ∷ r) = omega (arith, encoded-short (v ∷ r)) in
    greedy-short (pair (to_b64_lem u) (to_b64_lem v)) _ _ _ two one

-- nor shorter than half of it
greedy-half : (p : Option ℕ) (x y : List ℕ) (n : ℕ) → n ≤ length x * 2 + 2 → n ≤ length y * 2 → n ≤ length (greedy p x y) * 2
greedy-half (Some u) x y n h k = omega arith
greedy-half None x y n h k = k

pub encoded-half : (l : List ℕ) → length l ≤ length (encoded l) * 2
unfolding encoded
encoded-half [] = omega arith
encoded-half (u ∷ []) = omega arith
encoded-half (u ∷ v ∷ r) =
    let two : length (u ∷ v ∷ r) ≤ length (encoded r) * 2 + 2 = omega (arith, encoded-half r) in
    let one : length (u ∷ v ∷ r) ≤ length (0 ∷ encoded (v ∷ r)) * 2 = omega (arith, encoded-half (v ∷ r)) in
    greedy-half (pair (to_b64_lem u) (to_b64_lem v)) _ _ _ two one

-- and its stored form has at most the prefix more
pub stored_short : (name : List ℕ) (table : Bool) → length (encoded_name name table) ≤ length name + 1
stored_short name true = omega (arith, encoded-short name)
stored_short name false = omega (arith, encoded-short name)

pub ruleset no_longer = (encoded-short, stored_short)

-- `encode` refused, and past both refusals
module _ (name : List ℕ) (table : Bool) (out : List ℕ) where
  pub encode_over : max_name < length name → (refused 22 nowhere, out) ≡ encode_outcome name table out
  encode_over h = rw (lt-ltb max_name (length name) h)

  module _ (h : length name ≤ max_name) where
    pub encode_short : length out < length (encoded_name name table) → (refused 7 nowhere, out) ≡ encode_outcome name table out
    encode_short k = rw (le-ltb max_name (length name) h, lt-ltb (length out) (length (encoded_name name table)) k)

    pub encode_done : (r : ℕ) (last : List ℕ) → length (encoded_name name table) ≤ length out
        → r ≡ length (encoded_name name table) → last ≡ encoded_name name table over out → (gives r, last) ≡ encode_outcome name table out
    encode_done r last k e f = rw (le-ltb max_name (length name) h, le-ltb (length out) (length (encoded_name name table)) k, e, f)

-- The promises of specs/Promises.antt about sizes and calls; RoundTrip.antt has the round trip.
use Prim.Native.Nat.{ℕ, ◌≤◌}
use mathlib.Core.Path.{◌≡◌, refl, sym, ap, ◌∙◌}
use mathlib.Core.Bool.{Bool, true, false, not, ◌&&◌, ◌||◌, true≢false}
use mathlib.Core.Logic.{◌≢◌}
use mathlib.Core.List.{List}
use native.Mathlib.Omega.{arith}
use lib.ListN.{length, take, get_or}
use lib.Seq.{take_at}
use Rattle.common.specs.Sizes.{max_name, max_stored}
use Rattle.common.specs.Lists.{◌over◌, every}
use Rattle.common.specs.Choice.{◌<?◌, ◌≤?◌, ◌=?◌}
use Rattle.common.specs.Answers.{gives, nowhere}
use Rattle.common.proofs.Bools.{both_true}
use Rattle.common.proofs.Outcomes.{past, outcome-gives, wrote as fitted}
use borrow.Author.Tests.{ltb-false, eqb-false, not-true}
use Rattle.streamname.specs.Names.{encoded_name, decoded_name, is_table, allowed, valid}
use Rattle.streamname.proofs.AllowedLaws.{every-clear}
use Rattle.streamname.specs.Calls.{encode_outcome, decode_answer, decode_outcome}
use Rattle.streamname.specs.Promises.{Returns, StoredSize, written, CallsReturn, ValidReturns}
use Rattle.streamname.proofs.EncodeLaws.{stored_short, encode_done}
use Rattle.streamname.proofs.DecodeLaws.{decode_done}
use Rattle.streamname.proofs.RoundTrip.{round_trip}

pub stored-size : StoredSize
stored-size name table = (stored_short name table, λ h. omega (arith, stored_short name table))

-- what `encode` wrote is the stored name
wrote : (name : List ℕ) (table : Bool) (out : List ℕ) → length name ≤ max_name → length (encoded_name name table) ≤ length out
    → written (encode_outcome name table out) ≡ encoded_name name table
wrote name table out h room =
    ap written (sym (encode_done name table out h (length (encoded_name name table)) _ room refl refl)) ∙ take_at (encoded_name name table) _ _ refl

-- where `decode` gives a name, it is the decoded one
gave : (stored out : List ℕ) (n : ℕ) (t : Bool) (last : List ℕ) → decode_outcome stored out ≡ (gives (n, t), last)
    → ◌≡◌ {A = (ℕ × Bool) × List ℕ} ((length (decoded_name stored), is_table stored), decoded_name stored over out) ((n, t), last)
gave stored out n t last e =
    let sized = (past (max_stored <? length stored || max_name <? length (decoded_name stored)) 22 nowhere (outcome-gives out (decode_answer stored out) e)).1 in
    let given = (fitted out (decoded_name stored) (λ x. gives ((x.0, is_table stored), x.1)) sized).1 in
    cc

module _ (name : List ℕ) (table : Bool) (out back : List ℕ)
    (h : length name ≤ max_name) (room : length (encoded_name name table) ≤ length out) (space : length name ≤ length back) where
  S : List ℕ
  S = encoded_name name table

  there : decode_outcome S back ≡ (gives (length name, table), name over back) → Returns name table
  unfolding S
  there e =
      let g = gave S back (length name) table (name over back) e in
      let n : length (decoded_name S) ≡ length name = ap (λ (x : _). x.0.0) g in
      let t : is_table S ≡ table = ap (λ (x : _). x.0.1) g in
      let w : decoded_name S over back ≡ name over back = ap (λ (x : _). x.1) g in
      let same : decoded_name S ≡ name = sym (take_at (decoded_name S) _ (length name) n) ∙ ap (take (length name)) w ∙ take_at name _ (length name) refl in
      (round_trip name table).0 (same, t)

  again : Returns name table → decode_outcome S back ≡ (gives (length name, table), name over back)
  unfolding S
  again r =
      let p = (round_trip name table).1 r in
      let long : length (decoded_name S) ≤ max_name = rw p.0 h in
      let fits : length (decoded_name S) ≤ length back = rw p.0 space in
      sym (decode_done S back ((stored-size name table).1 h) long (length name) table (name over back) fits (sym (ap length p.0)) (sym p.1) (ap (λ (x : List ℕ). x over back) (sym p.0)))

pub calls-return : CallsReturn
unfolding S
calls-return name table out back h room space = rw (wrote name table out h room) (there name table out back h room space, again name table out back h room space)

-- a valid name has no coded unit, and keeps its flag
plain : (name : List ℕ) (t : Bool) → t ≡ false → (t || not (is_table name)) ≡ true → get_or name 0 0 ≢ 0x4840
plain name true p f = absurd (true≢false p)
plain name false p f = eqb-false _ _ (not-true _ f)

keeps : (name : List ℕ) (table : Bool) → valid name table ≡ true → Returns name table
keeps name table e =
    let some = not (length name =? 0) in
    let flag = table || not (is_table name) in
    let short = length (encoded_name name table) ≤? 31 in
    let f = both_true (some && flag && short) (every allowed name) e in
    let g = (both_true some flag (both_true (some && flag) short f.0).0).1 in
    (every-clear name f.1, λ p. plain name table p g)

pub valid-returns : ValidReturns
valid-returns name table out back e room space =
    let p = past (max_name <? length name) 22 nowhere e in
    let v : valid name table ≡ true = cc in
    (calls-return name table out back (ltb-false max_name (length name) p.0) room space).1 (keeps name table v)

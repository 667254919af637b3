-- A value of a kind that may be unknown, created in a pool: what is refused leaves the rooms as they were.
use mathlib.Core.Path.{◌≡◌, refl, ap, ◌∙◌}
use Prim.Native.Nat.{ℕ, ◌<◌}
use mathlib.Core.Bool.{Bool, true, false, not}
use mathlib.Core.List.{List}
use lib.IntN.{ℤ}
use lib.ListN.{length}
use borrow.Author.Tests.{ne_eqb, ltb-true}
use native.Mathlib.Omega.{arith}
use Rattle.std.specs.Prelude.{Result, Ok, Err}
use Rattle.common.specs.Choice.{when◌then◌else◌, ◌<?◌}
use Rattle.common.specs.Sizes.{max_bytes}
use Rattle.common.specs.Answers.{Answer, gives, refused, nowhere, on_given, outcome}
use Rattle.common.specs.Refusals.{answered}
use Rattle.common.specs.declared.refusal.Refusal.{Refusal}
use Rattle.stringpool.specs.Pool.{Rooms, sound}
use Rattle.stringpool.specs.Take.{Chooser}
use Rattle.stringpool.specs.declared.pool.StringPool.{StringPool}
use Rattle.cell.specs.Kinds.{value_kind, value_number}
use Rattle.cell.specs.declared.value.Value.TheVariants as plain
use Rattle.pool_values.specs.Pooled.{created_of, created_as, create_answer, create_outcome}
use Rattle.pool_values.specs.declared.Created.{Created}
use Rattle.c_types.specs.Answers.{told_lem, told_as, answered_as}
use Rattle.cell.specs.Handed.{unknown}
use Rattle.c_types.specs.Unknown.{on_kind}
use Rattle.c_types.specs.Values.{plain_in_lem, create_by, created_told, created_in}
use Rattle.c_types.specs.declared.answers.Refused.{Refused}
use Rattle.c_types.specs.declared.answers.CreateAnswer.{CreateAnswer}

-- 16 takes the place of what was given, and the rooms are as they were
refused-kept : {A W : Type 0} (kind : ℕ) (w : W) (a : Answer (A × W)) → (unknown kind ≡ true → (outcome w a).1 ≡ w)
    → (on_kind nowhere kind (outcome w a).0, (outcome w a).1) ≡ outcome w (on_kind nowhere kind a)
refused-kept {A} {W} kind w (gives x) kept = go (unknown kind) refl
  where
    go : (b : Bool) → unknown kind ≡ b → ◌≡◌ {A = Answer A × W} ((when b then refused 16 nowhere else gives x.0), x.1) (outcome w (when b then refused 16 nowhere else gives x))
    go true e = ap (λ (v : W). (refused 16 nowhere, v)) (kept e)
    go false e = refl
refused-kept {A} {W} kind w (refused n at) kept = go (unknown kind)
  where
    go : (b : Bool) → ◌≡◌ {A = Answer A × W} ((when b then refused n at else refused n at), w) (outcome w (when b then refused n at else refused n at))
    go true = refl
    go false = refl

-- an unknown kind is judged as Binary is, which leaves the rooms
above : (kind k : ℕ) → unknown kind ≡ true → k < 4 → kind ≡ k → ⊥
above kind k e few same = omega (arith, ltb-true 3 kind e, few, same)

plain-unknown : (kind : ℕ) (n : ℤ) → unknown kind ≡ true → plain_in_lem kind n ≡ plain.Binary
plain-unknown kind n e = simp (ne_eqb kind 0 (above kind 0 e (omega arith)), ne_eqb kind 1 (above kind 1 e (omega arith)), ne_eqb kind 2 (above kind 2 e (omega arith)))

leaves : {A W : Type 0} (w : W) (x : A) (b c d : Bool) → (outcome w (when b then refused 22 nowhere else when c then refused 22 nowhere else when d then refused 24 nowhere else gives (x, w))).1 ≡ w
leaves w x true c d = refl
leaves w x false true d = refl
leaves w x false false true = refl
leaves w x false false false = refl

create_kept : (choose : Chooser) (kind : ℕ) (n : ℤ) (new : List ℕ) (p : StringPool) (w : Rooms) → unknown kind ≡ true
    → (outcome w (create_answer choose (value_kind (plain_in_lem kind n)) (value_number (plain_in_lem kind n)) new p w)).1 ≡ w
create_kept choose kind n new p w e = rw (plain-unknown kind n e) (leaves w _ (max_bytes <? length new) (max_bytes <? length w.text) (not (sound p w)))

-- what was given, read before the kind or after it
read-kind : (kind : ℕ) (r : Result Created Refusal) → told_as created_of (told_lem (on_kind nowhere kind (answered r))) ≡ told_lem (on_kind nowhere kind (created_as r))
read-kind kind r = go (unknown kind) r
  where
    at : Bool → {A : Type 0} → Answer A → Answer A
    at b a = when b then on_given a (λ x. refused 16 nowhere) else a

    go : (b : Bool) (r : Result Created Refusal) → told_as created_of (told_lem (at b (answered r))) ≡ told_lem (at b (created_as r))
    go true (Ok x) = refl
    go true (Err why) = refl
    go false (Ok x) = refl
    go false (Err why) = refl

abbrev pub created_for_c : Result Created Refused → CreateAnswer
created_for_c a = created_told (told_as created_of a)

pub creates : (choose : Chooser) (kind : ℕ) (n : ℤ) (new : List ℕ) (p : StringPool) (w after : Rooms) (r : Result Created Refusal)
    → (created_as r, after) ≡ create_outcome choose (value_kind (plain_in_lem kind n)) (value_number (plain_in_lem kind n)) new p w
    → (created_for_c (told_lem (on_kind nowhere kind (answered r))), after) ≡ answered_as created_in (outcome w (create_by choose kind n new p w))
creates choose kind n new p w after r e =
    rw (read-kind kind r)
    (ap (λ (q : Answer ((ℕ × ℤ) × StringPool) × Rooms). (created_in (on_kind nowhere kind q.0), q.1)) e
    ∙ ap (answered_as created_in) (refused-kept kind w (create_answer choose (value_kind (plain_in_lem kind n)) (value_number (plain_in_lem kind n)) new p w) (create_kept choose kind n new p w)))

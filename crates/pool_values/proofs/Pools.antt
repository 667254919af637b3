-- A text that is created is a take, with the kind of a text.
use mathlib.Core.Path.{◌≡◌, refl, sym, ◌∙◌, ap}
use mathlib.Core.List.{List}
use Prim.Native.Nat.{ℕ}
use lib.IntN.{ℤ}
use Rattle.std.specs.Prelude.{Result, Ok, Err, None}
use Rattle.common.specs.Answers.{Answer, gives, refused, on_given, outcome}
use Rattle.common.specs.Refusals.{answer_as}
use Rattle.common.specs.declared.refusal.Refusal.{Refusal}
use Rattle.stringpool.specs.declared.pool.StringPool.{StringPool}
use Rattle.stringpool.specs.declared.takes.Taken.{Taken}
use Rattle.stringpool.specs.Pool.{Rooms}
use Rattle.stringpool.specs.Take.{Chooser, taken_as, take_answer, take_outcome}
use Rattle.cell.specs.Kinds.{value_kind, value_number}
use Rattle.cell.specs.declared.value.Value.{Value}
use Rattle.cell.specs.declared.value.Value.TheVariants as plain
use Rattle.pool_values.specs.Pooled.{created_of, create_outcome}
use Rattle.pool_values.specs.inner.Pooled.{plain_of_lem, text_created}

abbrev typed : Answer (ℤ × StringPool) → Answer ((ℕ × ℤ) × StringPool)
typed a = on_given a (λ (y : ℤ × StringPool). gives ((2, y.0), y.1))

abbrev pub text_made : Result Taken Refusal → Answer ((ℕ × ℤ) × StringPool)
text_made t = answer_as (λ (x : Taken). created_of (text_created x)) t

text-made_is : (t : Result Taken Refusal) → text_made t ≡ typed (taken_as t)
text-made_is (Ok x) = refl
text-made_is (Err why) = refl

outcome-is : (w : Rooms) (a : Answer ((ℤ × StringPool) × Rooms)) → outcome w (on_given a (λ (x : (ℤ × StringPool) × Rooms). gives (((2, x.0.0), x.0.1), x.1))) ≡ (typed (outcome w a).0, (outcome w a).1)
outcome-is w (gives x) = refl
outcome-is w (refused n at) = refl

module _ (new : List ℕ) (p : StringPool) (w left : Rooms) (choose : Chooser) (t : Result Taken Refusal) where
  pub create_text : (v : Value) → plain_of_lem v ≡ None → (taken_as t, left) ≡ take_outcome choose p w new → (text_made t, left) ≡ create_outcome choose (value_kind v) (value_number v) new p w
  create_text plain.Null none e = cc
  create_text (plain.Int n) none e = cc
  create_text plain.Str none e =
      rw (text-made_is t) (ap (λ (q : Answer (ℤ × StringPool) × Rooms). (typed q.0, q.1)) e) ∙ sym (outcome-is w (take_answer choose p w new))
  create_text plain.Binary none e = cc

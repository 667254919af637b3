-- Values and the string pool: create, remove and to_value, thin over the pool's calls, with their refusals; a text stands beside the value.
use Rattle.std.specs.Prelude.{ℕ, List, [], ℤ, pos, length, Result}
use Rattle.common.specs.Choice.{when◌then◌else◌, ◌<?◌, ◌=?◌}
use Rattle.common.specs.Sizes.{max_bytes}
use Rattle.common.specs.Answers.{Answer, gives, refused, nowhere, on_given, outcome}
use Rattle.common.specs.Refusals.{answer_as}
use Rattle.common.specs.declared.refusal.Refusal.{Refusal}
use Rattle.stringpool.specs.declared.pool.StringPool.{StringPool}
use Rattle.stringpool.specs.Pool.{Rooms, on_sound}
use Rattle.stringpool.specs.Take.{Chooser, take_answer}
use Rattle.stringpool.specs.Drop.{drop_answer}
use Rattle.stringpool.specs.Show.{show_answer}
use Rattle.cell.specs.declared.value.Value.{Value}
use Rattle.cell.specs.Kinds.{ref_kind, ref_number, value_kind, value_number}
use Rattle.pool_values.specs.declared.Created.{Created}

-- a value that is no text leaves the pool as it is, after 22 for the text and for the room, and 24
abbrev pub plain_answer : ℕ → ℤ → List ℕ → StringPool → Rooms → Answer (((ℕ × ℤ) × StringPool) × Rooms)
plain_answer kind n new p w = when max_bytes <? length new then refused 22 nowhere else on_sound p w (gives (((kind, n), p), w))

-- a text is taken, by that choice
abbrev pub create_answer : Chooser → ℕ → ℤ → List ℕ → StringPool → Rooms → Answer (((ℕ × ℤ) × StringPool) × Rooms)
create_answer choose kind n new p w =
    when kind =? 2 then on_given (take_answer choose p w new) (λ x. gives (((2, x.0.0), x.0.1), x.1))
    else plain_answer kind n new p w

abbrev pub create_outcome : Chooser → ℕ → ℤ → List ℕ → StringPool → Rooms → Answer ((ℕ × ℤ) × StringPool) × Rooms
create_outcome choose kind n new p w = outcome w (create_answer choose kind n new p w)

-- a reference is dropped
abbrev pub remove_answer : ℕ → ℤ → StringPool → Rooms → Answer (StringPool × Rooms)
remove_answer kind n p w = when kind =? 2 then drop_answer p w n else on_sound p w (gives (p, w))

abbrev pub remove_outcome : ℕ → ℤ → StringPool → Rooms → Answer StringPool × Rooms
remove_outcome kind n p w = outcome w (remove_answer kind n p w)

-- the text of a reference, none of any other value
abbrev pub text_answer : ℕ → ℤ → StringPool → Rooms → Answer (List ℕ)
text_answer kind n p w = when kind =? 2 then show_answer p w n else on_sound p w (gives [])

-- the value, by its kind and number; a text's number is 0, since the text stands beside it
abbrev pub shown_answer : ℕ → ℤ → StringPool → Rooms → Answer (ℕ × ℤ)
shown_answer kind n p w = on_given (text_answer kind n p w) (λ t. gives (kind, when kind =? 2 then pos 0 else n))

abbrev pub created_of : Created → (ℕ × ℤ) × StringPool
created_of c = ((ref_kind c.value, ref_number c.value), c.pool)

abbrev pub created_as : Result Created Refusal → Answer ((ℕ × ℤ) × StringPool)
created_as made = answer_as created_of made

abbrev pub shown_of : Value → ℕ × ℤ
shown_of v = (value_kind v, value_number v)

abbrev pub shown_as : Result Value Refusal → Answer (ℕ × ℤ)
shown_as shown = answer_as shown_of shown

-- The steps of creating and showing.
use Rattle.std.specs.Prelude.{Option, Some, None}
use Rattle.stringpool.specs.declared.takes.Taken.{Taken}
use Rattle.cell.specs.declared.value.ValueRef.{ValueRef}
use Rattle.cell.specs.declared.value.ValueRef.TheVariants as ref
use Rattle.cell.specs.declared.value.Value.{Value}
use Rattle.cell.specs.declared.value.Value.TheVariants as plain
use Rattle.pool_values.specs.declared.Created.{Created}

-- a text that was taken
abbrev pub text_created : Taken → Created
text_created t = record { value = ref.Str t.reference; pool = t.pool }

-- a value that is no text, as it is stored
abbrev pub plain_of_lem : Value → Option ValueRef
plain_of_lem plain.Null = Some ref.Null
plain_of_lem (plain.Int n) = Some (ref.Int n)
plain_of_lem plain.Str = None
plain_of_lem plain.Binary = Some ref.Binary

abbrev pub shown_of_lem : ValueRef → Value
shown_of_lem ref.Null = plain.Null
shown_of_lem (ref.Int n) = plain.Int n
shown_of_lem (ref.Str r) = plain.Str
shown_of_lem ref.Binary = plain.Binary

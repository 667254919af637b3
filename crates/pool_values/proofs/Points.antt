-- The points of specs/Points.antt, by computation.
use mathlib.Core.Path.{refl, sym}
use mathlib.Core.List.{[]}
use lib.IntN.{pos}
use Rattle.std.specs.Prelude.{Ok}
use Rattle.cell.specs.declared.value.Value.TheVariants.{Str}
use Rattle.stringpool.specs.Take.{first_free_or_equal, equal_then_free_lem}
use Rattle.stringpool.specs.Points.{short, k_rooms}
use Rattle.stringpool.proofs.Points.{counts-up_there}
use Rattle.pool_values.proofs.Pools.{create_text}
use Rattle.pool_values.specs.Points.{SizeFirst, JudgedToo, CreatedBy}

pub size-first : SizeFirst
size-first = (λ choose p w new e. rw e, λ choose p w new e. rw e, λ choose p l c text e. rw e, λ p l c text e. rw e, λ choose new e p l c s. rw (e, s))

pub judged-too : JudgedToo
judged-too =
    (λ choose p l c s. rw s, λ choose p l c s. rw s, λ p l c s. rw s, λ p l c s. rw s, λ p l c s. rw s, λ p l c s. rw s, λ p l c s. rw s, λ p l c s. rw s, λ choose p l c s. rw s, λ p l c s. rw s, λ p l c s. rw s, λ p l c s. rw s)

-- by the take of stringpool's point
pub created_by : CreatedBy
created_by = (
  sym (create_text [] (short 3) k_rooms _ equal_then_free_lem (Ok (record { reference = record { 0 = pos 3 }; pool = short 3 })) Str refl (sym counts-up_there.0)),
  sym (create_text [] (short 3) k_rooms _ first_free_or_equal (Ok (record { reference = record { 0 = pos 2 }; pool = short 3 })) Str refl (sym counts-up_there.1)),
)

-- Types by their cases: the maximum of a Str, and the `else` of a `let .. else` on one.
use mathlib.Core.Path.{◌≡◌, refl}
use mathlib.Core.Bool.{Bool, true, false, not, ◌&&◌}
use Prim.Native.Nat.{ℕ}
use borrow.Author.Tests.{ltb-false}
use Rattle.common.specs.Answers.{gives}
use Rattle.cell.specs.declared.form.ColumnType.{ColumnType}
use Rattle.cell.specs.declared.form.ColumnType.TheVariants.{Int16, Int32, Str, Binary}
use Rattle.cell.specs.Forms.{sound_type}
use Rattle.column.specs.inner.Bits.{too_long_lem, MaximumFits}

-- ---- 19

pub sound-type : (c : ℕ) (t : ColumnType) → too_long_lem t ≡ false → (sound_type c t ≡ gives t) × MaximumFits t
sound-type c Int16 e = (refl, tt)
sound-type c Int32 e = (refl, tt)
sound-type c (Str max) e = (rw e, ltb-false 255 max e)
sound-type c Binary e = (refl, tt)

pub and_false : (a : Bool) → false ≡ (a && not true)
and_false true = refl
and_false false = refl

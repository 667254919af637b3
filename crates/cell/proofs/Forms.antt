-- A cell by its cases, and by its kind and number.
use mathlib.Core.Path.{◌≡◌, refl}
use Prim.Native.Nat.{ℕ}
use Rattle.common.specs.Choice.{when◌then◌else◌, ◌=?◌}
use Rattle.common.specs.Answers.{Place, gives, refused}
use Rattle.cell.specs.declared.value.Cell.{Cell}
use Rattle.cell.specs.declared.value.Cell.TheVariants.{Null, Int, Str, Binary, Unknown}
use Rattle.cell.specs.Handed.{handed_kind, handed_number}
use Rattle.cell.specs.Cells.{integer}
use Rattle.cell.specs.inner.Forms.{integer_stored_lem, binary_stored_lem}

pub integer-by_kind : (half : ℕ) (at : Place) (v : Cell) → integer_stored_lem half at v
    ≡ (when handed_kind v =? 0 then gives 0 else when handed_kind v =? 1 then integer half at (handed_number v) else refused 16 at)
integer-by_kind half at Null = refl
integer-by_kind half at (Int n) = refl
integer-by_kind half at (Str n) = refl
integer-by_kind half at Binary = refl
integer-by_kind half at Unknown = refl

pub binary_by_kind : (at : Place) (v : Cell) → binary_stored_lem at v ≡ (when handed_kind v =? 0 then gives 0 else when handed_kind v =? 3 then gives 1 else refused 16 at)
binary_by_kind at Null = refl
binary_by_kind at (Int n) = refl
binary_by_kind at (Str n) = refl
binary_by_kind at Binary = refl
binary_by_kind at Unknown = refl

-- The `else` of a `let .. else`: the enum is none of the cases named.
use mathlib.Core.Path.{◌≡◌, refl}
use mathlib.Core.List.{[], ◌∷◌}
use mathlib.Core.Logic.{⊎_elim}
use Prim.Native.Nat.{ℕ}
use native.Mathlib.Omega.{arith}
use types.Run.{OneOf}
use denote.Enum.Declared.{tag_of}
use Rattle.common.specs.Answers.{Place, refused}
use Rattle.cell.specs.contracts.value.Cell.{the_type}
use Rattle.cell.specs.declared.value.Cell.{Cell}
use Rattle.cell.specs.declared.value.Cell.TheVariants.{Null, Int, Str, Binary, Unknown}
use Rattle.cell.specs.inner.Forms.{integer_stored_lem, reference_stored_lem, binary_stored_lem}

none4 : {n a b c d : ℕ} → (n ≡ a → ⊥) → (n ≡ b → ⊥) → (n ≡ c → ⊥) → (n ≡ d → ⊥) → OneOf (a ∷ b ∷ c ∷ d ∷ []) n → ⊥
none4 x y z w o = ⊎_elim x (⊎_elim y (⊎_elim z w)) o

-- a cell that is neither a Null nor of the column's kind
pub not_integer : (half : ℕ) (at : Place) (v : Cell) → OneOf (1 ∷ 2 ∷ 3 ∷ 4 ∷ []) (tag_of the_type v) → OneOf (0 ∷ 2 ∷ 3 ∷ 4 ∷ []) (tag_of the_type v)
    → refused 16 at ≡ integer_stored_lem half at v
not_integer half at Null k o = absurd (none4 (λ e. omega arith) (λ e. omega arith) (λ e. omega arith) (λ e. omega arith) k)
not_integer half at (Int n) k o = absurd (none4 (λ e. omega arith) (λ e. omega arith) (λ e. omega arith) (λ e. omega arith) o)
not_integer half at (Str n) k o = refl
not_integer half at Binary k o = refl
not_integer half at Unknown k o = refl

pub not_reference : (long : _) (at : Place) (v : Cell) → OneOf (1 ∷ 2 ∷ 3 ∷ 4 ∷ []) (tag_of the_type v) → OneOf (0 ∷ 1 ∷ 3 ∷ 4 ∷ []) (tag_of the_type v)
    → refused 16 at ≡ reference_stored_lem long at v
not_reference long at Null k o = absurd (none4 (λ e. omega arith) (λ e. omega arith) (λ e. omega arith) (λ e. omega arith) k)
not_reference long at (Int n) k o = refl
not_reference long at (Str n) k o = absurd (none4 (λ e. omega arith) (λ e. omega arith) (λ e. omega arith) (λ e. omega arith) o)
not_reference long at Binary k o = refl
not_reference long at Unknown k o = refl

pub not_binary : (at : Place) (v : Cell) → OneOf (1 ∷ 2 ∷ 3 ∷ 4 ∷ []) (tag_of the_type v) → OneOf (0 ∷ 1 ∷ 2 ∷ 4 ∷ []) (tag_of the_type v) → refused 16 at ≡ binary_stored_lem at v
not_binary at Null k o = absurd (none4 (λ e. omega arith) (λ e. omega arith) (λ e. omega arith) (λ e. omega arith) k)
not_binary at (Int n) k o = refl
not_binary at (Str n) k o = refl
not_binary at Binary k o = absurd (none4 (λ e. omega arith) (λ e. omega arith) (λ e. omega arith) (λ e. omega arith) o)
not_binary at Unknown k o = refl

-- Document 01's order "Table: 20, 13 or 19 at the first bad column".
use Rattle.std.specs.Prelude.{ℕ, suc, List, [], ◌∷◌, map, take}
use Rattle.common.specs.Choice.{when◌then◌else◌, ◌<?◌}
use Rattle.common.specs.Sizes.{max_columns}
use Rattle.common.specs.Answers.{Answer, gives, refused, nowhere, on_given, each}
use Rattle.cell.specs.declared.form.ColumnType.{ColumnType}
use Rattle.cell.specs.Forms.{sound_type}
use Rattle.column.specs.declared.column.Column.{Column}

-- each with its place, from c on
abbrev pub placed : {A : Type 0} → ℕ → List A → List (ℕ × A)
placed c [] = []
placed c (x ∷ xs) = (c, x) ∷ placed (suc c) xs

-- all of them in order, each judged at its place, from c on; or the first refusal
abbrev pub each_at : {A B : Type 0} → (ℕ → A → Answer B) → ℕ → List A → Answer (List B)
each_at judge c xs = each (λ p. judge p.0 p.1) (placed c xs)

-- "20, 13 or 19 at the first bad column": one judge of bits and of columns
abbrev pub judged : {A B : Type 0} → (ℕ → A → Answer B) → ℕ → List A → Answer (List B)
judged judge count xs = when max_columns <? count then refused 20 nowhere else each_at judge 0 xs

-- the columns in use, and their types
abbrev pub used_columns : List Column → ℕ → List Column
used_columns columns count = take count columns

abbrev pub used_types : List Column → ℕ → List ColumnType
used_types columns count = map (λ (x : Column). x.coltype) (used_columns columns count)

abbrev pub sound_column : ℕ → Column → Answer Column
sound_column c x = on_given (sound_type c x.coltype) (λ t. gives x)

abbrev pub sound_columns : List Column → ℕ → Answer (List Column)
sound_columns columns count = judged sound_column count (used_columns columns count)

-- what a call answers where its columns are sound
abbrev pub on_sound_columns : {A : Type 0} → List Column → ℕ → Answer A → Answer A
on_sound_columns columns count a = on_given (sound_columns columns count) (λ xs. a)

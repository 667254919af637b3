-- The columns of the bulk calls one after the other.
use Rattle.std.specs.Prelude.{ℕ, List, [], map}
use Rattle.common.specs.Lists.{joined, from}
use Rattle.common.specs.Answers.{Answer, gives, refused}

-- what a list of bytes was given, or none
abbrev pub given_bytes : Answer (List ℕ) → List ℕ
given_bytes (gives b) = b
given_bytes (refused n at) = []

-- the bytes of n of them from k on, where none is refused
abbrev pub plain : (ℕ → Answer (List ℕ)) → ℕ → ℕ → List ℕ
plain f k n = joined (map (λ (x : ℕ). given_bytes (f x)) (from k n))

-- the cells of n rows from k on, row by row
abbrev pub rows_from : {A : Type 0} → (ℕ → ℕ → A) → ℕ → ℕ → ℕ → List A
rows_from g columns k n = joined (map (λ (r : ℕ). map (g r) (from 0 columns)) (from k n))

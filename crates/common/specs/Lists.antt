-- Lists as the definitions speak of them: a result written over a room, lists joined, numbers counted up and summed.
use Rattle.std.specs.Prelude.{ℕ, zero, suc, ◌+◌, Bool, true, ◌&&◌, List, [], ◌∷◌, ◌++◌, length, take, drop}

infix 30 ◌over◌
-- a room with the result written to its front; past the result it is as it was
abbrev pub ◌over◌ : {A : Type 0} → List A → List A → List A
result over room = result ++ drop (length result) room

-- the same from a place on; before it the room is as it was
abbrev pub over_at : {A : Type 0} → ℕ → List A → List A → List A
over_at at result room = take at room ++ (result over drop at room)

-- lists one after the other
abbrev pub joined : {A : Type 0} → List (List A) → List A
joined [] = []
joined (x ∷ xs) = x ++ joined xs

-- n numbers from k on: k, k + 1, ..
abbrev pub from : ℕ → ℕ → List ℕ
from k zero = []
from k (suc n) = k ∷ from (suc k) n

-- the sum of numbers
abbrev pub total : List ℕ → ℕ
total [] = 0
total (x ∷ xs) = x + total xs

-- whether all pass the test
abbrev pub every : {A : Type 0} → (A → Bool) → List A → Bool
every f [] = true
every f (x ∷ xs) = f x && every f xs

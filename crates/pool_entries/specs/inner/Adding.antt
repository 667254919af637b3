-- What the passes over the lengths find.
use Rattle.std.specs.Prelude.{◌≡◌, ℕ, ◌*◌, ◌<◌, ◌≤◌, List, length, take, slice_index}
use Rattle.common.specs.Lists.{total}

-- P holds of each place from..to
abbrev pub Each : (ℕ → Type 0) → ℕ → ℕ → Type 0
Each P from to = (k : ℕ) → from ≤ k → k < to → P k

-- the lengths from..to are at most 65,535 each
abbrev pub Short : List ℕ → ℕ → ℕ → Type 0
Short ls from to = Each (λ k. slice_index ls k ≤ 65535) from to

-- the first n lengths, none of them above 65,535, summed
pub record Tallied (ls : List ℕ) (n s : ℕ) : Type 0 where
  pub sum : s ≡ total (take n ls)
  pub few : s ≤ 65535 * n
  pub short : Short ls 0 n

-- the lengths summed; `bits` has the bits of all
pub record Summed (ls : List ℕ) (all bits : ℕ) : Type 0 where
  pub sum : all ≡ total ls
  pub few : all ≤ 4294967295 * length ls
  pub short : bits ≤ 65535 → Short ls 0 (length ls)

-- A signed number by way of the unsigned, and back, where h is half the width's numbers.
use Rattle.std.specs.Prelude.{ℕ, suc, ◌+◌, ◌-◌, ℤ, pos, negsuc}
use Rattle.std.proofs.Math.IntN.{sub_ℕ}

-- n + h, for n from -h on; below it 0
abbrev pub biased : ℕ → ℤ → ℕ
biased h (pos n) = n + h
biased h (negsuc n) = h - suc n

-- u - h
abbrev pub unbiased : ℕ → ℕ → ℤ
unbiased h u = sub_ℕ u h

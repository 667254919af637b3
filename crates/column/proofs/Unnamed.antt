-- A column's bits: as the machine has them, and those that no test names.
use mathlib.Core.Path.{◌≡◌, refl}
use mathlib.Core.Bool.{Bool, true, false}
use Prim.Native.Nat.{ℕ, ◌+◌, ◌-◌, ◌*◌, ◌/◌, ◌%◌, ◌≤◌}
use native.Mathlib.Omega.{arith}
use lib.IntN.{ℤ, pos, negsuc}
use lib.Dec.{eqb}
use borrow.Author.Tests.{ne_eqb}
use mir.Syntax.{w32}
use mir.Val.{of_z}
use Rattle.common.specs.Choice.{when◌then◌else◌}
use Rattle.column.specs.Bits.{bits_of, has, without, size}
use Rattle.column.specs.Promises.{UnnamedBits, UnnamedInColumn}

pub bits_are : (z : ℤ) → bits_of z ≡ of_z w32 z
bits_are (pos n) = refl
bits_are (negsuc n) = omega arith

-- ---- bits that no test names

first_fails : (b : ℕ) → 0x4000 ≤ b → eqb (without 0x1000 b) 0x900 ≡ false
first_fails b h = go (has 0x1000 b)
  where
    go : (t : Bool) → eqb (when t then b - 0x1000 else b) 0x900 ≡ false
    go true = ne_eqb (b - 0x1000) 0x900 (λ e. omega arith)
    go false = ne_eqb b 0x900 (λ e. omega arith)

-- a bit below 14, and the low byte, with any bits from 14 on
bit_9 : (bits k : ℕ) → has 0x200 (bits + 0x4000 * k) ≡ has 0x200 bits
bit_9 bits k = let e : (bits + 0x4000 * k) / 0x200 % 2 ≡ bits / 0x200 % 2 = omega arith in rw e

bit_10 : (bits k : ℕ) → has 0x400 (bits + 0x4000 * k) ≡ has 0x400 bits
bit_10 bits k = let e : (bits + 0x4000 * k) / 0x400 % 2 ≡ bits / 0x400 % 2 = omega arith in rw e

bit_11 : (bits k : ℕ) → has 0x800 (bits + 0x4000 * k) ≡ has 0x800 bits
bit_11 bits k = let e : (bits + 0x4000 * k) / 0x800 % 2 ≡ bits / 0x800 % 2 = omega arith in rw e

bit_12 : (bits k : ℕ) → has 0x1000 (bits + 0x4000 * k) ≡ has 0x1000 bits
bit_12 bits k = let e : (bits + 0x4000 * k) / 0x1000 % 2 ≡ bits / 0x1000 % 2 = omega arith in rw e

bit_13 : (bits k : ℕ) → has 0x2000 (bits + 0x4000 * k) ≡ has 0x2000 bits
bit_13 bits k = let e : (bits + 0x4000 * k) / 0x2000 % 2 ≡ bits / 0x2000 % 2 = omega arith in rw e

low_byte : (bits k : ℕ) → size (bits + 0x4000 * k) ≡ size bits
low_byte bits k = omega arith

pub unnamed_bits : UnnamedBits
unnamed_bits c bits k h one =
    (rw (first_fails (bits + 0x4000 * k) (omega arith), bit_11 bits k, bit_10 bits k, low_byte bits k), bit_9 bits k, bit_12 bits k, bit_13 bits k)

pub unnamed_in_column : UnnamedInColumn
unnamed_in_column b c bits k n h one is =
    let u = unnamed_bits c bits k h one in
    rw (is, u.0, u.1, u.2, u.3)

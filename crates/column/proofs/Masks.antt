-- What masks do to a number, as division and remainder, which `omega` reads. Over the bit k.
use mathlib.Core.Path.{◌≡◌, refl, ap, ◌∙◌, sym}
use Prim.Native.Nat.{ℕ, ◌+◌, ◌-◌, ◌*◌, ◌/◌, ◌%◌, ◌<◌, ◌≤◌, ◌^◌}
use native.Mathlib.Nat.{pow-suc, zero-mul, mod-lt, add-zero}
use lib.Pow.{pow_pos}
use native.Mathlib.Numerals.{one-add}
use native.Mathlib.Omega.{arith}
use lib.Dec.{lit<, eqb}
use mathlib.Core.Bool.{Bool, true, false, not, ◌||◌}
use mathlib.Core.Logic.{⊎_elim}
use borrow.Author.Tests.{eq-eqb, ne_eqb, eqb-true, eqb-false}
use Rattle.common.specs.Choice.{when◌then◌else◌}
use Rattle.common.specs.Answers.{gives, refused, column}
use Rattle.column.specs.Bits.{bits_of, has, without, type_from, type_bits_lem}
use Rattle.column.proofs.Unnamed.{bits_are}
use Rattle.column.specs.inner.Bits.{MaximumFits}
use Rattle.cell.proofs.Halves.{lt_or_le}
use Rattle.cell.specs.declared.form.ColumnType.{ColumnType}
use Rattle.cell.specs.declared.form.ColumnType.TheVariants.{Int16, Int32, Str, Binary}
use lib.IntN.{ℤ, pos, nat_abs}
use mir.Syntax.{w32}
use mir.Val.{to_z, of_z}
use mir.Facts.{to_z_pos, Fits-of_z}
use Rattle.std.proofs.Common.{FitsSigned}
use lib.Bits.{bit_and, bit_or, and_mask, and_high, and_block, or_add_and}

-- n & (1 << k)
pub mask_bit : (n k : ℕ) → bit_and n (2 ^ k) ≡ n / 2 ^ k % 2 * 2 ^ k
mask_bit n k =
    let e : 2 ^ (1 + k) - 2 ^ k ≡ 2 ^ k = rw (one-add, pow-suc) (omega arith) in
    rw e at (and_high n 1 k)

-- n | (1 << k)
pub set-bit : (n k : ℕ) → bit_or n (2 ^ k) + n / 2 ^ k % 2 * 2 ^ k ≡ n + 2 ^ k
set-bit n k = rw (mask_bit n k) at (or_add_and n (2 ^ k))

-- n & 0xff
pub low_byte : (n : ℕ) → bit_and n 255 ≡ n % 256
low_byte n = and_mask n 8

-- n & !0x1000, at 32 bits
pub without-4096 : (n : ℕ) → n < 2 ^ 32 → bit_and n 4294963199 ≡ n - n / 4096 % 2 * 4096
without-4096 n h =
    let e : n / 8192 * 8192 + n % 8192 ≡ n = omega arith in
    let b = and_block 13 (n / 8192) 524287 (n % 8192) 4095 (omega arith) (lit< tt) in
    let m : bit_and (n / 8192) 524287 ≡ n / 8192 % 524288 = and_mask (n / 8192) 19 in
    let l : bit_and (n % 8192) 4095 ≡ n % 8192 % 4096 = and_mask (n % 8192) 12 in
    let a : n / 8192 % 524288 ≡ n / 8192 = omega arith in
    let d : n / 4096 ≡ n / 8192 * 2 + n % 8192 / 4096 = omega arith in
    let f : n / 4096 % 2 ≡ n % 8192 / 4096 = omega arith in
    ap (λ (x : ℕ). bit_and x 4294963199) (sym e) ∙ b ∙ rw (m, l) (omega arith)

-- ---- the tests of the code, and those of the definition

without_is : (b : ℕ) (t : Bool) → has 4096 b ≡ t → b - b / 4096 % 2 * 4096 ≡ (when t then b - 4096 else b)
without_is b true e = let one : b / 4096 % 2 ≡ 1 = eqb-true (b / 4096 % 2) 1 e in rw one
without_is b false e = let no = eqb-false (b / 4096 % 2) 1 e in let z : b / 4096 % 2 ≡ 0 = ⊎_elim (λ x. omega arith) (λ x. absurd (no (omega arith))) (lt_or_le (b / 4096 % 2) 1) in rw z (omega arith)

pub without-mask : (b : ℕ) → b < 2 ^ 32 → bit_and b 4294963199 ≡ without 4096 b
without-mask b h = without-4096 b h ∙ without_is b (has 4096 b) refl

pub has-yes : (k b : ℕ) → (bit_and b (2 ^ k) ≡ 0 → ⊥) → has (2 ^ k) b ≡ true
has-yes k b n =
    let one : b / 2 ^ k % 2 ≡ 1 =
    ⊎_elim
    (λ z. let x : b / 2 ^ k % 2 ≡ 0 = omega arith in absurd (n (mask_bit b k ∙ rw (x, zero-mul))))
    (λ o. omega (arith, mod-lt (b / 2 ^ k) {m = 2} (lit< tt)))
    (lt_or_le (b / 2 ^ k % 2) 1) in
    eq-eqb _ _ one

pub has_no : (k b : ℕ) → bit_and b (2 ^ k) ≡ 0 → has (2 ^ k) b ≡ false
has_no k b e =
    ne_eqb (b / 2 ^ k % 2) 1 (λ one. let z : 1 * 2 ^ k ≡ 0 = rw (mask_bit b k, one) at e in omega (arith, pow_pos k))

-- a masked i32 read as a number: `(bits & 0xff) as u32`
pub low_byte_is : (n : ℕ) → to_z w32 (bit_and n 255) ≡ pos (n % 256)
low_byte_is n = rw (low_byte n) (to_z_pos w32 (omega arith))

-- ---- marks set by masks: a bit that is clear is added

pub add-mark : (k n : ℕ) (on : Bool) → n / 2 ^ k % 2 ≡ 0 → (when on then bit_or n (2 ^ k) else n) ≡ n + (when on then 2 ^ k else 0)
add-mark k n true clear =
    let e : bit_or n (2 ^ k) + 0 * 2 ^ k ≡ n + 2 ^ k = rw clear at (set-bit n k) in
    omega arith
add-mark k n false clear = sym (add-zero n)

mark_le : (on : Bool) (m : ℕ) → (when on then m else 0) ≤ m
mark_le true m = omega arith
mark_le false m = omega arith

-- the three marks, one after the other, on a type's bits
pub all-marks : (n b₁ b₂ b₃ : ℕ) (l u p : Bool) → n < 4096 → n / 512 % 2 ≡ 0
    → b₁ ≡ (when l then bit_or n 512 else n) → b₂ ≡ (when u then bit_or b₁ 4096 else b₁) → b₃ ≡ (when p then bit_or b₂ 8192 else b₂)
    → (b₃ ≡ n + ((when l then 512 else 0) + (when u then 4096 else 0) + (when p then 8192 else 0))) × (b₃ < 16384)
all-marks n b₁ b₂ b₃ l u p small clear e₁ e₂ e₃ =
    let f₁ : b₁ ≡ n + (when l then 512 else 0) = e₁ ∙ add-mark 9 n l clear in
    let m₁ = mark_le l 512 in
    let f₂ : b₂ ≡ b₁ + (when u then 4096 else 0) = e₂ ∙ add-mark 12 b₁ u (omega arith) in
    let m₂ = mark_le u 4096 in
    let f₃ : b₃ ≡ b₂ + (when p then 8192 else 0) = e₃ ∙ add-mark 13 b₂ p (omega arith) in
    let m₃ = mark_le p 8192 in
    omega arith

-- every type's bits leave the marks' bits clear
pub type-clear : (t : ColumnType) → MaximumFits t → (type_bits_lem t < 4096) × (type_bits_lem t / 512 % 2 ≡ 0)
type-clear Int16 h = (lit< tt, refl)
type-clear Int32 h = (lit< tt, refl)
type-clear (Str max) h = (omega arith, omega arith)
type-clear Binary h = (lit< tt, refl)

-- ---- a mark read into a flag, `bits & MARK != 0`

flag : (k b : ℕ) (t : Bool) → eqb (bit_and b (2 ^ k)) 0 ≡ t → not t ≡ has (2 ^ k) b
flag k b true e = sym (has_no k b (eqb-true (bit_and b (2 ^ k)) 0 e))
flag k b false e = sym (has-yes k b (eqb-false (bit_and b (2 ^ k)) 0 e))

pub mark_is : (k b : ℕ) → not (eqb (bit_and b (2 ^ k)) 0) ≡ has (2 ^ k) b
mark_is k b = flag k b (eqb (bit_and b (2 ^ k)) 0) refl

-- ---- the tests for the type, by the code's masks

pub type_by_masks : (z : ℤ) → FitsSigned w32 z → type_from 0 (bits_of z)
    ≡ (when eqb (bit_and (of_z w32 z) 4294963199) 0x900 then gives Binary
    else when not (eqb (bit_and (of_z w32 z) 2048) 0) then gives (Str (nat_abs (to_z w32 (bit_and (of_z w32 z) 255))))
    else when eqb (nat_abs (to_z w32 (bit_and (of_z w32 z) 255))) 4 then gives (when not (eqb (bit_and (of_z w32 z) 1024) 0) then Binary else Int32)
    else when eqb (nat_abs (to_z w32 (bit_and (of_z w32 z) 255))) 2 || eqb (nat_abs (to_z w32 (bit_and (of_z w32 z) 255))) 1 then gives Int16
    else refused 13 (column 0))
type_by_masks z f =
    rw (bits_are z, without-mask (of_z w32 z) (Fits-of_z {w = w32} f).fits, low_byte_is (of_z w32 z), mark_is 11 (of_z w32 z), mark_is 10 (of_z w32 z))

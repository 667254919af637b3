-- The laws of numbers in bytes, each over the width.
use mathlib.Core.Path.{◌≡◌, refl, ap, ◌∙◌}
use mathlib.Core.List.{List, [], ◌∷◌, ◌++◌}
use Prim.Native.Nat.{ℕ, zero, suc, ◌+◌, ◌-◌, ◌*◌, ◌/◌, ◌%◌, ◌<◌, ◌≤◌, ◌^◌}
use native.Mathlib.Nat.{pow-suc, add-zero, pow-le-pow_right}
use native.Mathlib.Omega.{arith}
use lib.Dec.{lit<}
use borrow.Author.Tests.{lt-ltb, le-ltb}
use lib.ListN.{length, get_or, take, drop}
use lib.Seq.{drop-cons, get_or-append-add, length-take-le}
use Rattle.common.specs.Lists.{◌over◌, over_at}
use Rattle.common.specs.Answers.{gives, refused, nowhere}
use Rattle.little_endian.specs.Numbers.{bytes_of, number_at, put_outcome}
use Rattle.little_endian.specs.Promises.{AreBytes}

pub length-bytes : (width n : ℕ) → length (bytes_of width n) ≡ width
length-bytes zero n = refl
length-bytes (suc width) n = ap suc (length-bytes width (n / 256))

-- the first of the bytes that are left, and the rest of them
pub bytes_next : (width i n : ℕ) → i < width → bytes_of (width - i) n ≡ n % 256 ∷ bytes_of (width - (i + 1)) (n / 256)
bytes_next width i n h =
    let e : width - i ≡ suc (width - (i + 1)) = omega arith in
    rw e

pub bytes-none : (width i n : ℕ) → width ≤ i → bytes_of (width - i) n ≡ []
bytes-none width i n h =
    let e : width - i ≡ 0 = omega arith in
    rw e

-- one byte more, in front of those that were read
pub number_next : (s : List ℕ) (at left width : ℕ) → 0 < left → left ≤ width
    → get_or s (at + (left - 1)) 0 + 256 * number_at (width - left) s (at + left) ≡ number_at (width - (left - 1)) s (at + (left - 1))
number_next s at left width h k =
    let e : width - (left - 1) ≡ suc (width - left) = omega arith in
    let p : suc (at + (left - 1)) ≡ at + left = omega arith in
    rw (e, p)

pub number_lt : (width : ℕ) (s : List ℕ) (at : ℕ) → AreBytes s → number_at width s at < 256 ^ width
number_lt zero s at b = lit< tt
number_lt (suc width) s at b = rw pow-suc (omega (arith, b at, number_lt width s (suc at) b))

pub number_below : (width m : ℕ) (s : List ℕ) (at : ℕ) → AreBytes s → width ≤ m → number_at width s at < 256 ^ m
number_below width m s at b h = omega (arith, number_lt width s at b, pow-le-pow_right {n = 256} (lit< tt) h)

-- what stands past a prefix
pub number_past : (width : ℕ) (p s : List ℕ) (at n : ℕ) → length p ≡ n → number_at width (p ++ s) (n + at) ≡ number_at width s at
number_past zero p s at n e = refl
number_past (suc width) p s at n e =
    let here : get_or (p ++ s) (n + at) 0 ≡ get_or s at 0 = rw (← e) (get_or-append-add p s at 0) in
    let there : suc (n + at) ≡ n + suc at = omega arith in
    rw (here, there, number_past width p s (suc at) n e)

-- write, then read
pub read_back : (width n : ℕ) (s : List ℕ) → n < 256 ^ width → number_at width (bytes_of width n ++ s) 0 ≡ n
read_back zero n s h = omega arith
read_back (suc width) n s h =
    let h' : n < 256 ^ width * 256 = rw pow-suc at h in
    rw (number_past width (n % 256 ∷ []) (bytes_of width (n / 256) ++ s) 0 1 refl, read_back width (n / 256) s (omega arith)) (omega arith)

pub read_back_at : (width n at : ℕ) (out : List ℕ) → n < 256 ^ width → at ≤ length out → number_at width (over_at at (bytes_of width n) out) at ≡ n
read_back_at width n at out h room =
    rw add-zero at (number_past width (take at out) (bytes_of width n over drop at out) 0 at (length-take-le at out room)) ∙ read_back width n _ h

-- read, then write
pub write_back : (width : ℕ) (s : List ℕ) (at : ℕ) → AreBytes s → at + width ≤ length s → bytes_of width (number_at width s at) ≡ take width (drop at s)
write_back zero s at b h = refl
write_back (suc width) s at b h =
    let low : (get_or s at 0 + 256 * number_at width s (suc at)) % 256 ≡ get_or s at 0 = omega (arith, b at) in
    let high : (get_or s at 0 + 256 * number_at width s (suc at)) / 256 ≡ number_at width s (suc at) = omega (arith, b at) in
    rw (low, high, drop-cons s at 0 (omega arith), write_back width s (suc at) b (omega arith))

-- `write` refused, and done
module _ (n width : ℕ) (out : List ℕ) (at : ℕ) where
  pub no_room : length out < at + width → (refused 7 nowhere, out) ≡ put_outcome n width out at
  no_room h = rw (lt-ltb (length out) (at + width) h)

  pub written : (last : List ℕ) → at + width ≤ length out → last ≡ over_at at (bytes_of width n) out → (gives width, last) ≡ put_outcome n width out at
  written last h e = rw (le-ltb (length out) (at + width) h, e)

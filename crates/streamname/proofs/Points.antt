-- The points of specs/Points.antt, by computation.
use Prim.Native.Nat.{ℕ, zero, suc, ◌*◌, ◌≤◌, ◌<◌}
use mathlib.Core.Path.{◌≡◌, refl, sym}
use mathlib.Core.Bool.{false, and-false}
use mathlib.Core.List.{List, [], ◌∷◌}
use native.Mathlib.Nat.{zero-mul, suc-mul}
use native.Mathlib.Omega.{arith}
use lib.Dec.{lit<, lit≤}
use lib.ListN.{length, replicate, length-replicate, length-append}
use borrow.Author.Tests.{lt-ltb, le-ltb, lt-leb}
use Rattle.common.specs.Answers.{gives, refused, nowhere}
use Rattle.streamname.specs.Letters.{letters}
use Rattle.streamname.specs.Names.{encoded, undone, decoded}
use Rattle.streamname.specs.Calls.{encode_outcome, decode_outcome, valid_answer}
use Rattle.streamname.proofs.EncodeLaws.{encoded-half, encode_over, encode_short}
use Rattle.streamname.proofs.DecodeLaws.{decode_over, decode_long, decode_short}
use Rattle.streamname.specs.Points.{Greedy, LoneLetters, Undone, OnePrefix, CodedBounds, ComesBack, EncodeRoom, DecodeRoom, NameSize, StoredLimit, EmptyName, ThirtyOne, FourCharacters, CodedUnits, PrefixUnit, AnyPlace}

pub greedy-points : Greedy
unfolding letters encoded
greedy-points = (refl, refl, refl)

pub lone-letters : LoneLetters
unfolding letters encoded
lone-letters = (refl, refl, refl, refl, refl, refl, refl, refl, refl, refl, refl, refl, refl, refl, refl)

pub undone-points : Undone
unfolding letters undone decoded
undone-points = (refl, refl, refl, refl, refl, refl)

pub one-prefix : OnePrefix
unfolding letters undone decoded
one-prefix = (refl, refl)

pub coded_bounds : CodedBounds
coded_bounds = (λ p. omega arith, (lit≤ tt, lit≤ tt), (lit≤ tt, lit≤ tt), λ p. omega arith)

pub comes_back : ComesBack
unfolding letters encoded undone decoded
comes_back = (refl, refl, refl, refl, refl, refl)

pub encode_room : EncodeRoom
unfolding letters encoded
encode_room = (refl, refl, refl, refl, refl, refl)

pub decode_room : DecodeRoom
unfolding letters undone decoded
decode_room = (refl, refl, refl)

-- The sizes, by the laws for a name of n equal units: computed, a list of 65,536 takes seconds.
named : (n : ℕ) → 62 < n → n ≤ 65535 → (encode_outcome (replicate n 0x30) false [] ≡ (refused 7 nowhere, [])) × (valid_answer (replicate n 0x30) false ≡ gives false)
named n p q =
    let s : List ℕ = replicate n 0x30 in
    let l : length s ≡ n = length-replicate n 0x30 in
    let e = encoded-half s in
    (sym (encode_short s false [] (omega arith) (omega arith)), rw (le-ltb 65535 (length s) (omega arith), lt-leb (length (encoded s)) 31 (omega arith), and-false))

named_over : (n : ℕ) → 65535 < n → (encode_outcome (replicate n 0x30) false [] ≡ (refused 22 nowhere, [])) × (valid_answer (replicate n 0x30) false ≡ refused 22 nowhere)
named_over n h =
    let s : List ℕ = replicate n 0x30 in
    let l : length s ≡ n = length-replicate n 0x30 in
    (sym (encode_over s false [] (omega arith)), rw (lt-ltb 65535 (length s) (omega arith)))

pub name-size : NameSize
name-size = ((named 65535 (lit< tt) (lit≤ tt)).0, (named_over 65536 (lit< tt)).0, (named 65535 (lit< tt) (lit≤ tt)).1, (named_over 65536 (lit< tt)).1)

many : (n u k : ℕ) → length (undone u) ≡ k → length (decoded (replicate n u)) ≡ n * k
unfolding decoded
many zero u k e = sym (zero-mul k)
many (suc n) u k e = simp length-append (omega (arith, suc-mul n k, many n u k e))

tabled : (n : ℕ) → 0 < n → n ≤ 65535 → decode_outcome (0x4840 ∷ replicate n 0x2D) [] ≡ (refused 7 nowhere, [])
unfolding undone
tabled n p q =
    let l = length-replicate {A = ℕ} n 0x2D in
    let m = many n 0x2D 1 refl in
    sym (decode_short (0x4840 ∷ replicate n 0x2D) [] (omega arith) (omega arith) (omega arith))

tabled_over : (n : ℕ) → 65535 < n → decode_outcome (0x4840 ∷ replicate n 0x2D) [] ≡ (refused 22 nowhere, [])
tabled_over n h =
    let l = length-replicate {A = ℕ} n 0x2D in
    sym (decode_over (0x4840 ∷ replicate n 0x2D) [] (omega arith))

pairs : (n : ℕ) → n ≤ 32767 → decode_outcome (0x4800 ∷ replicate n 0x3800) [] ≡ (refused 7 nowhere, [])
unfolding decoded undone
pairs n h =
    let l = length-replicate {A = ℕ} n 0x3800 in
    let m = many n 0x3800 2 refl in
    sym (decode_short (0x4800 ∷ replicate n 0x3800) [] (omega arith) (omega arith) (omega arith))

pairs_over : (n : ℕ) → 32767 ≤ n → n < 65536 → decode_outcome (0x3800 ∷ replicate n 0x3800) [] ≡ (refused 22 nowhere, [])
unfolding decoded undone
pairs_over n h k =
    let l = length-replicate {A = ℕ} n 0x3800 in
    let m = many n 0x3800 2 refl in
    sym (decode_long (0x3800 ∷ replicate n 0x3800) [] (omega arith) (omega arith))

pub stored-limit : StoredLimit
stored-limit = (tabled 65535 (lit< tt) (lit≤ tt), tabled_over 65536 (lit< tt), pairs 32767 (lit≤ tt), pairs_over 32767 (lit≤ tt) (lit< tt))

pub empty_name : EmptyName
unfolding letters encoded
empty_name = (refl, refl, refl)

pub thirty_one : ThirtyOne
unfolding letters encoded
thirty_one = (refl, refl, refl, refl, refl, refl, refl, refl)

pub four_characters : FourCharacters
unfolding letters encoded
four_characters = ((refl, refl), (refl, refl), (refl, refl), (refl, refl), (refl, refl), (refl, refl), (refl, refl), (refl, refl), (refl, refl), (refl, refl), (refl, refl), (refl, refl))

pub coded_units : CodedUnits
unfolding letters encoded
coded_units = ((refl, refl), (refl, refl), (refl, refl), (refl, refl), (refl, refl), (refl, refl))

pub prefix_unit : PrefixUnit
unfolding letters encoded
prefix_unit = (refl, refl, refl)

pub any_place : AnyPlace
unfolding letters encoded
any_place = (refl, refl, refl, refl)

-- Written bits read back.
use mathlib.Core.Path.{◌≡◌, refl}
use mathlib.Core.Bool.{Bool, true, false, not, ◌&&◌, ◌||◌}
use Prim.Native.Nat.{ℕ, ◌+◌, ◌<◌}
use native.Mathlib.Omega.{arith}
use lib.Dec.{T, eqb, ltb}
use borrow.Author.Tests.{eqb-true, ltb-false}
use lib.IntN.{pos}
use Rattle.std.specs.Prelude.{Option}
use Rattle.common.specs.Choice.{when◌then◌else◌}
use Rattle.common.specs.Answers.{gives, refused, on_given}
use Rattle.common.proofs.Below.{all_below, each, both}
use Rattle.common.proofs.Bools.{clash}
use Rattle.common.proofs.Answers.{given}
use Rattle.cell.specs.declared.form.ColumnType.{ColumnType}
use Rattle.cell.specs.declared.form.ColumnType.TheVariants.{Int16, Int32, Str, Binary}
use Rattle.column.specs.declared.column.ColumnBuilder.{ColumnBuilder}
use Rattle.column.specs.declared.column.ValueRange.{ValueRange}
use Rattle.column.specs.Bits.{has, without, size, type_bits_lem}
use Rattle.column.specs.Columns.{bits_column}
use Rattle.column.specs.Promises.{type_back, BitsReadBack}

abbrev marked : Bool → Bool → Bool → ℕ
marked l u p = (when l then 0x200 else 0) + (when u then 0x1000 else 0) + (when p then 0x2000 else 0)

abbrev agree : Bool → Bool → Bool
agree true b = b
agree false b = not b

agrees : (a b : Bool) → T (agree a b) → b ≡ a
agrees true true t = refl
agrees false false t = refl
agrees true false t = absurd t
agrees false true t = absurd t

-- what the tests say of a Str column's bits
abbrev test : Bool → Bool → Bool → ℕ → Bool
test l u p max =
    let b = 0xD00 + max + marked l u p in
    agree false (eqb (without 0x1000 b) 0x900) && (agree true (has 0x800 b) && (eqb (size b) max && (agree l (has 0x200 b) && (agree u (has 0x1000 b) && agree p (has 0x2000 b)))))

all : (l u p : Bool) → T (all_below (test l u p) 256)
all true true true = tt
all true true false = tt
all true false true = tt
all true false false = tt
all false true true = tt
all false true false = tt
all false false true = tt
all false false false = tt

record Told (l u p : Bool) (max : ℕ) : Type 0 where
  other : eqb (without 0x1000 (0xD00 + max + marked l u p)) 0x900 ≡ false
  text : has 0x800 (0xD00 + max + marked l u p) ≡ true
  low : size (0xD00 + max + marked l u p) ≡ max
  loc : has 0x200 (0xD00 + max + marked l u p) ≡ l
  null : has 0x1000 (0xD00 + max + marked l u p) ≡ u
  key : has 0x2000 (0xD00 + max + marked l u p) ≡ p

told : (l u p : Bool) (max : ℕ) → max < 256 → Told l u p max
told l u p max h =
    let t = each (test l u p) 256 (all l u p) max h in
    let b = 0xD00 + max + marked l u p in
    let t₁ = both (agree false (eqb (without 0x1000 b) 0x900)) _ t in
    let t₂ = both (agree true (has 0x800 b)) _ t₁.1 in
    let t₃ = both (eqb (size b) max) _ t₂.1 in
    let t₄ = both (agree l (has 0x200 b)) _ t₃.1 in
    let t₅ = both (agree u (has 0x1000 b)) _ t₄.1 in
    record {
      other = agrees false _ t₁.0;
      text = agrees true _ t₂.0;
      low = eqb-true (size b) max (agrees true _ t₃.0);
      loc = agrees l _ t₄.0;
      null = agrees u _ t₅.0;
      key = agrees p _ t₅.1;
    }

-- the column that the bits of a type and of marks make
abbrev Back : ColumnType → Bool → Bool → Bool → Type 0
Back t l u p = (r : Option ValueRange) (b : ColumnBuilder) (c : ℕ) → bits_column b c (pos (type_bits_lem t + marked l u p))
    ≡ gives (record { coltype = type_back (record { coltype = t; is_localizable = l; is_nullable = u; is_primary_key = p; value_range = r }); is_localizable = l; is_nullable = b.is_nullable || u; is_primary_key = p; value_range = b.value_range })

back_int16 : (l u p : Bool) → Back Int16 l u p
back_int16 true true true r b c = refl
back_int16 true true false r b c = refl
back_int16 true false true r b c = refl
back_int16 true false false r b c = refl
back_int16 false true true r b c = refl
back_int16 false true false r b c = refl
back_int16 false false true r b c = refl
back_int16 false false false r b c = refl

back_int32 : (l u p : Bool) → Back Int32 l u p
back_int32 true true true r b c = refl
back_int32 true true false r b c = refl
back_int32 true false true r b c = refl
back_int32 true false false r b c = refl
back_int32 false true true r b c = refl
back_int32 false true false r b c = refl
back_int32 false false true r b c = refl
back_int32 false false false r b c = refl

back_binary : (l u p : Bool) → Back Binary l u p
back_binary true true true r b c = refl
back_binary true true false r b c = refl
back_binary true false true r b c = refl
back_binary true false false r b c = refl
back_binary false true true r b c = refl
back_binary false true false r b c = refl
back_binary false false true r b c = refl
back_binary false false false r b c = refl

back_str : (max : ℕ) (l u p : Bool) → max < 256 → Back (Str max) l u p
back_str max l u p h r b c =
    let t = told l u p max h in
    rw (t.other, t.text, t.low, t.loc, t.null, t.key)

pub bits-read_back : BitsReadBack
bits-read_back x b c n e = go x.coltype refl
  where
    go : (t : ColumnType) → x.coltype ≡ t → bits_column b c n ≡ gives (record { coltype = type_back x; is_localizable = x.is_localizable; is_nullable = b.is_nullable || x.is_nullable; is_primary_key = x.is_primary_key; value_range = b.value_range })
    go Int16 q = rw (← given (rw q at e), q) (back_int16 x.is_localizable x.is_nullable x.is_primary_key x.value_range b c)
    go Int32 q = rw (← given (rw q at e), q) (back_int32 x.is_localizable x.is_nullable x.is_primary_key x.value_range b c)
    go Binary q = rw (← given (rw q at e), q) (back_binary x.is_localizable x.is_nullable x.is_primary_key x.value_range b c)
    go (Str max) q = fits (ltb 255 max) refl (rw q at e)
      where
        fits : (k : Bool) → ltb 255 max ≡ k → on_given (when k then refused 19 (Rattle.common.specs.Answers.column 0) else gives (Str max)) (λ t. gives (pos (type_bits_lem t + marked x.is_localizable x.is_nullable x.is_primary_key))) ≡ gives n
            → bits_column b c n ≡ gives (record { coltype = type_back x; is_localizable = x.is_localizable; is_nullable = b.is_nullable || x.is_nullable; is_primary_key = x.is_primary_key; value_range = b.value_range })
        fits true f g = clash (cc)
        fits false f g = rw (← given g, q) (back_str max x.is_localizable x.is_nullable x.is_primary_key (omega (arith, ltb-false 255 max f)) x.value_range b c)

-- A call that judges first, by what the judge answers.
use Rattle.std.proofs.Common.{◌≡◌, ℕ, ◌≤◌, Bool, true, false, not, leb, length, take, sym, refl, ◌∙◌, ap₂, ltb-false, leb-true}
use Rattle.common.specs.Choice.{when◌then◌else◌, ◌<?◌}
use Rattle.common.specs.Lists.{total}
use Rattle.common.specs.Answers.{Answer, gives, refused, Place, nowhere}
use Rattle.common.proofs.Outcomes.{refused-gives}
use Rattle.pool_entries.specs.Entries.{Rooms}
use Rattle.pool_entries.specs.Sound.{sound_rooms, on_sound_rooms}
use Rattle.pool_entries.specs.inner.Fit.{Fit}
use Rattle.pool_entries.specs.inner.Sound.{all_small_lem, sums_b, fits_b}
use Rattle.pool_entries.proofs.Sound.{sound-same, then_second, fits_few}

-- what is known of a sound state
pub record Passed (n codepage : ℕ) (w : Rooms) : Type 0 where
  pub fit : Fit n w
  pub few : n ≤ 16777215
  pub page : codepage ≤ 2147483647
  pub small : all_small_lem (take n w.lengths) (take n w.counts) ≡ true

pub sound-passed : (n page : ℕ) (w : Rooms) → sound_rooms n page w ≡ true → Passed n page w
sound-passed n page w e =
    let a = then_second (fits_b n page w.lengths w.counts) (sums_b n w.lengths w.counts (length w.text)) (sym (sound-same n page w) ∙ e) in
    let f = fits_few n page w.lengths w.counts a.0 in
    let s = then_second (all_small_lem (take n w.lengths) (take n w.counts)) (leb (total (take n w.lengths)) (length w.text)) a.1 in
    record { fit = record { lengths = f.lengths; counts = f.counts; text = leb-true _ _ s.1 }; few = f.few; page = f.codepage; small = s.0 }

-- a refusal is one whatever would have been given
pub same_refusal : {A B : Type 0} {m n : ℕ} {p q : Place} → ◌≡◌ {A = Answer A} (refused m p) (refused n q) → ◌≡◌ {A = Answer B} (refused m p) (refused n q)
same_refusal e = cc

-- the judge would give b
module _ {B : Type 0} (n page : ℕ) (w : Rooms) (b : B) where
  abbrev By : {A : Type 0} → Bool → Bool → Answer A → Answer A
  By over sound a = when over then refused 22 nowhere else when not sound then refused 24 nowhere else a

  -- the judge's refusal is the call's
  pub call_refused : {A : Type 0} (a : Answer A) {k : ℕ} {at : Place} → refused k at ≡ on_sound_rooms n page w (gives b) → refused k at ≡ on_sound_rooms n page w a
  call_refused {A} a {k} {at} e = go (268435455 <? length w.text) (sound_rooms n page w) e
    where
      go : (x y : Bool) → refused k at ≡ By x y (gives b) → ◌≡◌ {A = Answer A} (refused k at) (By x y a)
      go true y e = same_refusal e
      go false false e = same_refusal e
      go false true e = absurd (refused-gives e)

  module _ {y : B} (e : gives y ≡ on_sound_rooms n page w (gives b)) where
    tests : ((268435455 <? length w.text) ≡ false) × (sound_rooms n page w ≡ true) × (y ≡ b)
    tests = go (268435455 <? length w.text) (sound_rooms n page w) e
      where
        go : (x z : Bool) → gives y ≡ By x z (gives b) → (x ≡ false) × (z ≡ true) × (y ≡ b)
        go true z e = absurd (refused-gives (sym e))
        go false false e = absurd (refused-gives (sym e))
        go false true e = (refl, refl, cc)

    -- a sound state is known to be, within its size; what the judge gives; and the call goes on
    pub call_passed : Passed n page w
    call_passed = sound-passed n page w tests.1

    pub call_size : length w.text ≤ 268435455
    call_size = ltb-false 268435455 (length w.text) tests.0

    pub call_given : y ≡ b
    call_given = tests.2

    pub call_on : {A : Type 0} (a : Answer A) → a ≡ on_sound_rooms n page w a
    call_on a = sym (ap₂ (λ (x y : Bool). By x y a) tests.0 tests.1)

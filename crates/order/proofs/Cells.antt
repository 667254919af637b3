-- What the table's orders leave where no refusal is met.
use mathlib.Core.Path.{◌≡◌, refl}
use mathlib.Core.Bool.{Bool, true, false, not, ◌&&◌}
use Prim.Native.Nat.{ℕ, ◌*◌, ◌<◌, ◌≤◌}
use lib.Dec.{ltb, eqb}
use borrow.Author.Tests.{ltb-true, ltb-false, eqb-true}
use Rattle.common.specs.Choice.{when◌then◌else◌}
use Rattle.common.specs.Answers.{Answer, gives, refused, nowhere}
use Rattle.common.proofs.Bools.{clash}
use Rattle.order.specs.Order.{bulk_fits_lem, cell_fits_lem}

pub record Bulk (most rows columns kinds numbers : ℕ) : Type 0 where
  pub few : rows ≤ most
  pub kinds-are : kinds ≡ rows * columns
  pub numbers-are : numbers ≡ rows * columns

pub bulk : (most rows columns kinds numbers : ℕ) → gives tt ≡ bulk_fits_lem most rows columns kinds numbers → Bulk most rows columns kinds numbers
bulk most rows columns kinds numbers e = go (ltb most rows) refl (eqb kinds (rows * columns)) refl (eqb numbers (rows * columns)) refl e
  where
    go : (a : Bool) → ltb most rows ≡ a → (b : Bool) → eqb kinds (rows * columns) ≡ b → (d : Bool) → eqb numbers (rows * columns) ≡ d
        → ◌≡◌ {A = Answer (Unit {0})} (gives tt) (when a then refused 14 nowhere else when not (b && d) then refused 23 nowhere else gives tt) → Bulk most rows columns kinds numbers
    go true p b q d r f = clash (cc)
    go false p false q d r f = clash (cc)
    go false p true q false r f = clash (cc)
    go false p true q true r f = record { few = ltb-false most rows p; kinds-are = eqb-true kinds (rows * columns) q; numbers-are = eqb-true numbers (rows * columns) r }

pub inside : (rows columns r c : ℕ) → gives tt ≡ cell_fits_lem rows columns r c → (r < rows) × (c < columns)
inside rows columns r c e = go (ltb r rows) refl (ltb c columns) refl e
  where
    go : (a : Bool) → ltb r rows ≡ a → (b : Bool) → ltb c columns ≡ b → ◌≡◌ {A = Answer (Unit {0})} (gives tt) (when a && b then gives tt else refused 15 nowhere) → (r < rows) × (c < columns)
    go false p b q f = clash (cc)
    go true p false q f = clash (cc)
    go true p true q f = (ltb-true r rows p, ltb-true c columns q)

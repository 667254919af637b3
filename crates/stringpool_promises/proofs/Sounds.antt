-- What is known of a sound pool, and that a state whose parts fit is one.
use mathlib.Core.Path.{◌≡◌, ◌∙◌}
use Prim.Native.Nat.{ℕ}
use mathlib.Core.Bool.{true, false}
use lib.Dec.{ltb, leb}
use lib.ListN.{length, take}
use borrow.Author.Tests.{le-ltb, le-leb}
use Rattle.common.specs.Lists.{total}
use Rattle.pool_entries.specs.inner.Sound.{fits_b, sound_b}
use Rattle.pool_entries.proofs.Sound.{sound-same}
use Rattle.pool_entries.proofs.Calls.{Passed, sound-passed}
use Rattle.stringpool.specs.Pool.{Rooms, sound}
use Rattle.stringpool.specs.declared.pool.StringPool.{StringPool}

abbrev pub SoundFit : StringPool → Rooms → Type 0
SoundFit p w = Passed p.num_strings p.codepage w

fits_yes : (p : StringPool) (w : Rooms) → SoundFit p w → fits_b p.num_strings p.codepage w.lengths w.counts ≡ true
unfolding fits_b
fits_yes p w f =
    let a : ltb (length w.lengths) p.num_strings ≡ false = le-ltb _ _ f.fit.lengths in
    let b : ltb (length w.counts) p.num_strings ≡ false = le-ltb _ _ f.fit.counts in
    let c : ltb 16777215 p.num_strings ≡ false = le-ltb _ _ f.few in
    let d : leb p.codepage 2147483647 ≡ true = le-leb _ _ f.page in
    simp (a, b, c, d)

pub fit-sound : (p : StringPool) (w : Rooms) → SoundFit p w → sound p w ≡ true
fit-sound p w f =
    let n : ℕ = p.num_strings in
    let a : fits_b n p.codepage w.lengths w.counts ≡ true = fits_yes p w f in
    let e : leb (total (take n w.lengths)) (length w.text) ≡ true = le-leb _ _ f.fit.text in
    let g : sound_b n p.codepage w ≡ true = simp (a, f.small, e) in
    sound-same n p.codepage w ∙ g

pub sound-fits : (p : StringPool) (w : Rooms) → sound p w ≡ true → SoundFit p w
sound-fits p w e = sound-passed p.num_strings p.codepage w e

-- A new pool is sound, and one with another code page.
use mathlib.Core.Path.{◌≡◌, refl, sym, ap, subst, ◌∙◌}
use Prim.Native.Nat.{ℕ, ◌≤◌}
use native.Mathlib.Omega.{arith}
use mathlib.Core.Bool.{true, false}
use lib.ListN.{length}
use Rattle.common.specs.Answers.{gives}
use Rattle.order.specs.Order.{page_fits_lem}
use Rattle.order.proofs.Laws.{page_fits}
use Rattle.stringpool.specs.Pool.{Rooms, sound}
use Rattle.stringpool.specs.Pages.{page_answer}
use Rattle.stringpool_promises.specs.Promises.{SoundState, MakesSound, PageSound}
use Rattle.stringpool.specs.declared.pool.StringPool.{StringPool}
use Rattle.stringpool_promises.proofs.Sounds.{SoundFit, fit-sound, sound-fits}
use Rattle.stringpool_promises.proofs.Law.{on_sound-is}
use Rattle.stringpool_promises.proofs.Loading.{given, gave}

abbrev paged : StringPool → ℕ → StringPool
paged p page = record { num_strings = p.num_strings; long_string_refs = p.long_string_refs; codepage = page }

-- another code page of 31 bits keeps what fits
page_sound : (p : StringPool) (page : ℕ) (w : Rooms) → SoundFit p w → page ≤ 2147483647 → sound (paged p page) w ≡ true
page_sound p page w f h = fit-sound (paged p page) w (record { fit = f.fit; few = f.few; page = h; small = f.small })

-- an accepted page is that
page_is : (p : StringPool) (page : ℕ) (q : StringPool) → page_answer p page ≡ gives q → (page ≤ 2147483647) × (paged p page ≡ q)
page_is p page q e =
    let a = gave (page_fits_lem page) (λ _. gives (paged p page)) q e in
    (page_fits page a.is, ap (given q) a.then')

page_state : (p : StringPool) (page : ℕ) (q : StringPool) (w : Rooms) → length w.text ≤ 268435455 → SoundFit p w → page_answer p page ≡ gives q → SoundState (record { pool = q; rooms = w })
page_state p page q w size f e =
    let i = page_is p page q e in
    subst (λ (x : StringPool). SoundState (record { pool = x; rooms = w })) i.1 (size, page_sound p page w f i.0)

pub makes_sound : MakesSound
makes_sound page w p size e =
    page_state (record { num_strings = 0; long_string_refs = false; codepage = 0 }) page p w size
    (record { fit = record { lengths = omega arith; counts = omega arith; text = omega arith }; few = omega arith; page = omega arith; small = refl }) e

pub page_sound_law : PageSound
page_sound_law page s p h e =
    page_state s.pool page p s.rooms h.0 (sound-fits s.pool s.rooms h.1) (sym (on_sound-is s h (page_answer s.pool page)) ∙ e)

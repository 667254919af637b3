-- The default take counts up an equal entry that can, whatever the rooms.
use mathlib.Core.Path.{◌≡◌, refl, sym, ap, ◌∙◌}
use Prim.Native.Nat.{ℕ, ◌+◌, ◌<◌}
use native.Mathlib.Omega.{arith}
use mathlib.Core.Bool.{Bool, false}
use mathlib.Core.List.{List}
use lib.ListN.{length, get_or}
use borrow.Author.Tests.{lt-ltb, le-ltb, eqb-false}
use Rattle.common.specs.Choice.{when◌then◌else◌}
use Rattle.common.specs.Answers.{gives, refused, nowhere, outcome}
use Rattle.pool_entries.proofs.Places.{first-place, counts_up}
use Rattle.stringpool.specs.Pool.{Entry, Rooms, free, on_sound}
use Rattle.stringpool.specs.Refs.{reference_to}
use Rattle.stringpool.specs.Take.{equal, first_place, can_count_up_lem, equal_then_free_lem, counting, take_at}
use Rattle.stringpool.specs.inner.Entries.{none}
use Rattle.stringpool.specs.declared.pool.StringPool.{StringPool}
use Rattle.stringpool.proofs.Entries.{length-entries, count_at}
use Rattle.stringpool.proofs.Taking.{equal-done}
use Rattle.stringpool_promises.specs.Promises.{entries, counted_up, EqualCountsUp}
use Rattle.stringpool_promises.proofs.Law.{on_sound-is}
use Rattle.stringpool_promises.proofs.Sounds.{SoundFit, sound-fits}

pub equal-counts_up : EqualCountsUp
equal-counts_up s t h small here =
    let p : StringPool = s.pool in
    let w : Rooms = s.rooms in
    let es : List Entry = entries s in
    let k : ℕ = first_place (can_count_up_lem t) es in
    let e : Entry = get_or es k none in
    let fit : SoundFit p w = sound-fits p w h.1 in
    let below : k < p.num_strings = omega (arith, here, length-entries p.num_strings w fit.fit) in
    let counted : free e ≡ false = (counts_up (free e) (equal t e) ((first-place (can_count_up_lem t) es).1 here)).0 in
    let up : 0 < get_or w.counts k 0 = omega (arith, eqb-false e.count 0 counted, count_at p.num_strings w fit.fit k below) in
    ap (λ (b : Bool). outcome w (when b then refused 22 nowhere else on_sound p w (take_at p w t (equal_then_free_lem t es)))) (le-ltb 268435455 (length t) small)
    ∙ ap (outcome w) (on_sound-is s h (take_at p w t (equal_then_free_lem t es)))
    ∙ ap (λ (b : Bool). outcome w (take_at p w t (when b then k else first_place free es))) (lt-ltb k (length es) here)
    ∙ sym (equal-done p w fit.fit t k below fit.few up (get_or w.counts k 0 + 1) refl).0
    ∙ ap (λ (b : Bool). (gives (reference_to k, when b then p else counting p (k + 1)), counted_up w k)) (lt-ltb k p.num_strings below)

use mathlib.Core.Path.{ap, ◌∙◌}
use Prim.Native.Nat.{ℕ}
use native.Mathlib.Omega.{arith}
use mathlib.Core.List.{List}
use lib.ListN.{take}
use Rattle.common.specs.Lists.{total}
use Rattle.common.specs.Answers.{outcome, written_to}
use Rattle.pool_entries.specs.Entries.{Rooms}
use Rattle.pool_entries.specs.Rooms.{rooms_of}
use Rattle.pool_entries.specs.inner.Fit.{Fit}
use Rattle.pool_entries.proofs.Calls.{call_passed, call_given, call_on}
use Rattle.pool_stream.specs.Entries.{stream_bytes}
use Rattle.pool_stream.specs.inner.Write.{stream_by}
use Rattle.pool_stream.proofs.Writing.{stream-same}
use Rattle.pool_stream.proofs.write.write_stream.Goals as goal

pub mark-requires : goal.mark-requires
mark-requires c =
    let a = c.args in
    let W : Rooms = rooms_of a.rooms in
    let Sound : ℕ × Rooms × ℕ = (a.num_strings, W, total (take a.num_strings W.lengths)) in
    (call_passed a.num_strings a.codepage W Sound c.in_ok-state.ensures).page

pub returns : goal.returns
returns c =
    let a = c.args in
    let W : Rooms = rooms_of a.rooms in
    let Sound : ℕ × Rooms × ℕ = (a.num_strings, W, total (take a.num_strings W.lengths)) in
    let Out : List ℕ = a.out.now in
    let e = c.in_ok-state.state.entries in
    let fit : Fit e.n (rooms_of e.rooms) = record { lengths = omega arith; counts = omega arith; text = omega arith } in
    c.write_fitting.ensures
    ∙ ap (λ (m : ℕ). outcome Out (written_to Out (stream_by m e.n e.rooms.lengths.now e.rooms.counts.now))) c.mark.ensures
    ∙ ap (λ (x : List ℕ). outcome Out (written_to Out x)) (stream-same e.n a.long_string_refs a.codepage (rooms_of e.rooms) fit)
    ∙ ap (λ (y : ℕ × Rooms × ℕ). outcome Out (written_to Out (stream_bytes y.0 a.long_string_refs a.codepage y.1))) (call_given a.num_strings a.codepage W Sound c.in_ok-state.ensures)
    ∙ ap (outcome Out) (call_on a.num_strings a.codepage W Sound c.in_ok-state.ensures (written_to Out (stream_bytes a.num_strings a.long_string_refs a.codepage W)))

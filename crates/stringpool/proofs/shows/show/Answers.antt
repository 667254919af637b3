use mathlib.Core.Path.{◌≡◌, sym, ap, ap₂, ◌∙◌}
use Prim.Native.Nat.{ℕ, ◌+◌, ◌-◌}
use native.Mathlib.Omega.{arith}
use lib.ListN.{take, drop, get_or}
use mir.Syntax.{w32}
use mir.ValLaws.{to_z-of_z}
use Rattle.common.specs.Answers.{gives}
use Rattle.common.proofs.Sums.{total-le, total-in}
use Rattle.stringpool.specs.Pool.{Entry, rooms_of, entries_of}
use Rattle.stringpool.specs.inner.Entries.{none}
use Rattle.stringpool.proofs.Entries.{entry-at, text-past}
use Rattle.stringpool.proofs.Judging.{judged, on_place}
use Rattle.std.proofs.Common.{rules}
use Rattle.stringpool.proofs.shows.show.Goals as goal

pub returns-then-at-p : goal.returns-then-at-p
returns-then-at-p c =
    let j = judged c.args.p (rooms_of c.args.rooms) c.in_ok-judge.ensures in
    ap gives (text-past c.args.p.num_strings (rooms_of c.args.rooms) j.fit c.in_ok-at.field-0.0 c.if-at-p.true)
    ∙ on_place c.args.p (rooms_of c.args.rooms) c.in_ok-judge.ensures c.args.number (to_z-of_z w32 c.args.number (search rules)) c.in_ok-at.ensures
    (λ (k : ℕ). gives (get_or (entries_of c.args.p (rooms_of c.args.rooms)) k none).text)

pub start_of-start-requires : goal.start_of-start-requires
start_of-start-requires c =
    let j = judged c.args.p (rooms_of c.args.rooms) c.in_ok-judge.ensures in
    omega (arith, c.if-at-p.false, j.fit.lengths, j.fit.text, j.large, total-le c.args.rooms.lengths.now c.in_ok-at.field-0.0 c.args.p.num_strings (omega (arith, c.if-at-p.false)))

pub overflow_add-end : goal.overflow_add-end
overflow_add-end c =
    let j = judged c.args.p (rooms_of c.args.rooms) c.in_ok-judge.ensures in
    omega (arith, c.start_of-start.ensures, j.fit.text, j.large, total-in c.args.rooms.lengths.now c.in_ok-at.field-0.0 c.args.p.num_strings c.if-at-p.false j.fit.lengths)

pub slice_bounds-result-end-2 : goal.slice_bounds-result-end-2
slice_bounds-result-end-2 c =
    let j = judged c.args.p (rooms_of c.args.rooms) c.in_ok-judge.ensures in
    omega (arith, c.start_of-start.ensures, j.fit.text, j.large, total-in c.args.rooms.lengths.now c.in_ok-at.field-0.0 c.args.p.num_strings c.if-at-p.false j.fit.lengths)

pub returns : goal.returns
returns c =
    let j = judged c.args.p (rooms_of c.args.rooms) c.in_ok-judge.ensures in
    let k : ℕ = c.in_ok-at.field-0.0 in
    let size : ℕ = get_or c.args.rooms.lengths.now k 0 in
    let e : c.start_of-start.result + size - c.start_of-start.result ≡ size = omega arith in
    ap gives (ap₂ (λ (i j : ℕ). take i (drop j c.args.rooms.text.now)) e c.start_of-start.ensures
    ∙ sym (ap (λ (x : Entry). x.text) (entry-at c.args.p.num_strings (rooms_of c.args.rooms) j.fit k c.if-at-p.false)))
    ∙ on_place c.args.p (rooms_of c.args.rooms) c.in_ok-judge.ensures c.args.number (to_z-of_z w32 c.args.number (search rules)) c.in_ok-at.ensures
    (λ (k : ℕ). gives (get_or (entries_of c.args.p (rooms_of c.args.rooms)) k none).text)

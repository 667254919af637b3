use Rattle.std.proofs.Common.{ℕ, ◌+◌, arith}
use Rattle.pool_entries.specs.inner.Look.{PassedBy}
use Rattle.pool_entries.proofs.Look.{pass_none, pass_next}
use Rattle.pool_entries.proofs.skips.skip_four.Goals as goal

pub returns-then-b-size : goal.returns-then-b-size
returns-then-b-size c =
    let Passed : ℕ → ℕ → Type 0 = λ k r. PassedBy c.args.lengths.now c.args.size c.args.from (c.args.from + 4) (c.args.from + k) (c.args.begin + r) in
    let one : Passed 1 c.length_at-a.result = let r = c.length_at-a.ensures in pass_next (pass_none (omega arith) c.requires.2) r.0 c.if-a-size.false (omega arith) (omega arith) r.1 (omega arith) (omega arith) in
    one

pub returns-then-c-size : goal.returns-then-c-size
returns-then-c-size c =
    let Passed : ℕ → ℕ → Type 0 = λ k r. PassedBy c.args.lengths.now c.args.size c.args.from (c.args.from + 4) (c.args.from + k) (c.args.begin + r) in
    let one : Passed 1 c.length_at-a.result = let r = c.length_at-a.ensures in pass_next (pass_none (omega arith) c.requires.2) r.0 c.if-a-size.false (omega arith) (omega arith) r.1 (omega arith) (omega arith) in
    let two : Passed 2 (c.length_at-a.result + c.length_at-b.result) = let r = c.length_at-b.ensures in pass_next one r.0 c.if-b-size.false (omega arith) (omega arith) r.1 (omega arith) (omega arith) in
    two

pub returns-then-d-size : goal.returns-then-d-size
returns-then-d-size c =
    let Passed : ℕ → ℕ → Type 0 = λ k r. PassedBy c.args.lengths.now c.args.size c.args.from (c.args.from + 4) (c.args.from + k) (c.args.begin + r) in
    let one : Passed 1 c.length_at-a.result = let r = c.length_at-a.ensures in pass_next (pass_none (omega arith) c.requires.2) r.0 c.if-a-size.false (omega arith) (omega arith) r.1 (omega arith) (omega arith) in
    let two : Passed 2 (c.length_at-a.result + c.length_at-b.result) = let r = c.length_at-b.ensures in pass_next one r.0 c.if-b-size.false (omega arith) (omega arith) r.1 (omega arith) (omega arith) in
    let three : Passed 3 (c.length_at-a.result + c.length_at-b.result + c.length_at-c.result) = let r = c.length_at-c.ensures in pass_next two r.0 c.if-c-size.false (omega arith) (omega arith) r.1 (omega arith) (omega arith) in
    three

pub returns : goal.returns
returns c =
    let Passed : ℕ → ℕ → Type 0 = λ k r. PassedBy c.args.lengths.now c.args.size c.args.from (c.args.from + 4) (c.args.from + k) (c.args.begin + r) in
    let one : Passed 1 c.length_at-a.result = let r = c.length_at-a.ensures in pass_next (pass_none (omega arith) c.requires.2) r.0 c.if-a-size.false (omega arith) (omega arith) r.1 (omega arith) (omega arith) in
    let two : Passed 2 (c.length_at-a.result + c.length_at-b.result) = let r = c.length_at-b.ensures in pass_next one r.0 c.if-b-size.false (omega arith) (omega arith) r.1 (omega arith) (omega arith) in
    let three : Passed 3 (c.length_at-a.result + c.length_at-b.result + c.length_at-c.result) = let r = c.length_at-c.ensures in pass_next two r.0 c.if-c-size.false (omega arith) (omega arith) r.1 (omega arith) (omega arith) in
    let r = c.length_at-d.ensures in
    pass_next three r.0 c.if-d-size.false (omega arith) (omega arith) r.1 (omega arith) (omega arith)

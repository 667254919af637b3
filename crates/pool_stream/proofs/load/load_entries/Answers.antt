use Rattle.std.proofs.lemmas.Result.{err_from_is_err_and}
use Rattle.pool_entries.specs.Entries.{rooms}
use Rattle.pool_stream.proofs.Planning.{by_plan, filling, entries-filled, entries-refused}
use Rattle.pool_stream.proofs.load.load_entries.Goals as goal

pub fill-requires : goal.fill-requires
fill-requires c =
    let a = c.args in
    filling a.pool.now a.stream (rooms a.lengths.now a.counts.now a.text.now) _ _ (by_plan a.pool.now a.stream (rooms a.lengths.now a.counts.now a.text.now) c.entry_room-entries.ensures c.in_ok-plan.ensures)

pub returns-in_err-plan : goal.returns-in_err-plan
returns-in_err-plan c =
    let a = c.args in
    let p = err_from_is_err_and c.from_residual.result c.from_residual.ensures.1 in
    rw (p.1, p.2) (entries-refused a.pool.now a.stream (rooms a.lengths.now a.counts.now a.text.now) (by_plan a.pool.now a.stream (rooms a.lengths.now a.counts.now a.text.now) c.entry_room-entries.ensures c.in_err-plan.ensures))

pub returns : goal.returns
returns c =
    let a = c.args in
    entries-filled a.pool.now a.stream (rooms a.lengths.now a.counts.now a.text.now) _ _ (by_plan a.pool.now a.stream (rooms a.lengths.now a.counts.now a.text.now) c.entry_room-entries.ensures c.in_ok-plan.ensures)
    _ _ c.fill.ensures.0 c.fill.ensures.1

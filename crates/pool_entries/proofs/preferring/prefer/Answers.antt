use Rattle.std.proofs.Common.{◌∙◌}
use Rattle.std.proofs.lemmas.Result.{err_from_is_err_and}
use Rattle.pool_entries.specs.Rooms.{rooms_of}
use Rattle.pool_entries.specs.Choose.{equal_then_free_lem}
use Rattle.pool_entries.proofs.Look.{choose_on, spot_found, chosen_judged}
use Rattle.pool_entries.proofs.preferring.prefer.Goals as goal

pub returns-in_err-state : goal.returns-in_err-state
returns-in_err-state c =
    let a = c.args in
    let p = err_from_is_err_and c.from_residual.result c.from_residual.ensures.1 in
    rw (p.1, p.2)
    (choose_on equal_then_free_lem a.num_strings (rooms_of a.rooms) a.new.now a.codepage c.if-new-gt-MAX_BYTES.false
    (chosen_judged equal_then_free_lem a.num_strings (rooms_of a.rooms) a.new.now a.codepage (c.in_err-state.ensures)))

pub returns : goal.returns
returns c =
    let a = c.args in
    let e = c.in_ok-state.state.entries in
    let d = c.equal_then_free-s.ensures in
    choose_on equal_then_free_lem a.num_strings (rooms_of a.rooms) a.new.now a.codepage c.if-new-gt-MAX_BYTES.false
    (spot_found equal_then_free_lem e.n (rooms_of e.rooms) a.new.now _ _ _ d.chosen d.sum
    ∙ chosen_judged equal_then_free_lem a.num_strings (rooms_of a.rooms) a.new.now a.codepage (c.in_ok-state.ensures))

use Rattle.std.proofs.lemmas.Result.{err_from_is_err_and}
use Rattle.common.specs.Answers.{gives}
use Rattle.pool_entries.specs.Rooms.{rooms_of}
use Rattle.pool_entries.proofs.Sound.{entries-refused, used-refused, used-given}
use Rattle.pool_entries.proofs.judging.sound_entries.Goals as goal

pub returns-in_err-entries : goal.returns-in_err-entries
returns-in_err-entries c =
    let p = err_from_is_err_and c.from_residual.result c.from_residual.ensures.1 in
    rw (p.1, p.2) (entries-refused c.args.num_strings c.args.codepage (rooms_of c.args.rooms) gives (c.in_err-entries.ensures))

pub returns-in_err-used : goal.returns-in_err-used
returns-in_err-used c =
    let p = err_from_is_err_and c.from_residual-in_err-used.result c.from_residual-in_err-used.ensures.1 in
    rw (p.1, p.2) (used-refused c.args.num_strings c.args.codepage (rooms_of c.args.rooms) gives _ (c.in_ok-entries.ensures) (c.in_err-used.ensures))

pub returns : goal.returns
returns c = used-given c.args.num_strings c.args.codepage (rooms_of c.args.rooms) gives _ (c.in_ok-entries.ensures) _ (c.in_ok-used.ensures)

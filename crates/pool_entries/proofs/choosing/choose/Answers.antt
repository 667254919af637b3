use Rattle.std.proofs.Common.{◌∙◌, arith}
use Rattle.std.proofs.lemmas.Result.{err_from_is_err_and}
use Rattle.pool_entries.specs.Rooms.{rooms_of}
use Rattle.pool_entries.specs.Choose.{first_free_or_equal}
use Rattle.pool_entries.specs.inner.Fit.{Fit}
use Rattle.pool_entries.proofs.Sound.{counted-small, entries-refused, used-refused, used-given, used-fit}
use Rattle.pool_entries.proofs.Look.{chosen_by, choose_on, spot_found}
use Rattle.pool_entries.proofs.choosing.choose.Goals as goal

pub returns-in_err-entries : goal.returns-in_err-entries
returns-in_err-entries c =
    let a = c.args in
    let p = err_from_is_err_and c.from_residual.result c.from_residual.ensures.1 in
    rw (p.1, p.2)
    (choose_on first_free_or_equal a.num_strings (rooms_of a.rooms) a.new.now a.codepage c.if-new-gt-MAX_BYTES.false
    (entries-refused a.num_strings a.codepage (rooms_of a.rooms) (chosen_by first_free_or_equal a.new.now) (c.in_err-entries.ensures)))

pub used_after-requires-clause-sum_to : goal.used_after-requires-clause-sum_to
used_after-requires-clause-sum_to c =
    let e = c.in_ok-entries.entries in
    let d = c.search-s.ensures in
    (d.sum, counted-small e.n e.rooms.lengths.now e.rooms.counts.now (omega arith) (omega arith) _ d.within d.counted)

pub returns-in_err-used : goal.returns-in_err-used
returns-in_err-used c =
    let a = c.args in
    let p = err_from_is_err_and c.from_residual-in_err-used.result c.from_residual-in_err-used.ensures.1 in
    rw (p.1, p.2)
    (choose_on first_free_or_equal a.num_strings (rooms_of a.rooms) a.new.now a.codepage c.if-new-gt-MAX_BYTES.false
    (used-refused a.num_strings a.codepage (rooms_of a.rooms) (chosen_by first_free_or_equal a.new.now) _ (c.in_ok-entries.ensures) (c.in_err-used.ensures)))

pub returns : goal.returns
returns c =
    let a = c.args in
    let e = c.in_ok-entries.entries in
    let d = c.search-s.ensures in
    let u = used-fit e.n (rooms_of e.rooms) (c.in_ok-used.ensures) in
    let fit : Fit e.n (rooms_of e.rooms) = record { lengths = omega arith; counts = omega arith; text = omega arith } in
    choose_on first_free_or_equal a.num_strings (rooms_of a.rooms) a.new.now a.codepage c.if-new-gt-MAX_BYTES.false
    (spot_found first_free_or_equal e.n (rooms_of e.rooms) a.new.now _ _ _ (d.chosen fit) d.sum.is
    ∙ used-given a.num_strings a.codepage (rooms_of a.rooms) (chosen_by first_free_or_equal a.new.now) _ (c.in_ok-entries.ensures) _ (c.in_ok-used.ensures))

use Rattle.table.proofs.Answers.{bytes-few, no_room, written}
use Rattle.table.specs.Writing.{Cells}
use lib.ListN.{length}
use native.Mathlib.Omega.{arith}
use mathlib.Core.Path.{◌≡◌}
use Rattle.table.proofs.layout.Table.write_rows.Goals as goal

pub overflow_mul-bytes : goal.overflow_mul-bytes
overflow_mul-bytes c =
    let cells : Cells = record { kinds = c.args.kinds.now; numbers = c.args.numbers.now } in
    let whole : length c.args.self.columns ≡ 64 = omega arith in
    omega (arith, bytes-few c.args.self c.args.rows cells c.in_ok-row_size.field-0 whole c.in_ok-row_size.ensures c.in_ok-bulk_fits.ensures)

pub returns-then-out-bytes : goal.returns-then-out-bytes
returns-then-out-bytes c =
    let cells : Cells = record { kinds = c.args.kinds.now; numbers = c.args.numbers.now } in
    let whole : length c.args.self.columns ≡ 64 = omega arith in
    rw (no_room c.args.self c.args.rows cells c.in_ok-row_size.field-0 whole c.in_ok-row_size.ensures c.in_ok-bulk_fits.ensures c.in_ok-judge.ensures c.args.out.now c.if-out-bytes.true)

pub returns : goal.returns
returns c =
    let cells : Cells = record { kinds = c.args.kinds.now; numbers = c.args.numbers.now } in
    let whole : length c.args.self.columns ≡ 64 = omega arith in
    rw (written c.args.self c.args.rows cells c.in_ok-row_size.field-0 whole c.in_ok-row_size.ensures c.in_ok-bulk_fits.ensures c.in_ok-judge.ensures c.args.out.now c.if-out-bytes.false, c.write.ensures)

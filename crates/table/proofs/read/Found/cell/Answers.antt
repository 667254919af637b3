use Rattle.table.proofs.Layouts.{column-width, column-start, stretch}
use Rattle.widths.specs.Widths.{type_at}
use Rattle.table.specs.Layout.{types_of}
use Rattle.cell.proofs.Cells.{form-width, form_unstored}
use native.Mathlib.Omega.{arith}
use Rattle.table.proofs.read.Found.cell.Goals as goal

pub overflow_add-start : goal.overflow_add-start
overflow_add-start c =
    let s = c.args.self.now in
    omega (arith, stretch s.table.now s.places _ s.lies c.args.column c.requires.1 c.args.row 1 (omega arith))

pub returns : goal.returns
returns c =
    let s = c.args.self.now in
    let t = s.table.now in
    let k = type_at (types_of t) c.args.column in
    rw (column-start t s.places _ s.lies c.args.column c.requires.1, column-width t s.places _ s.lies c.args.column c.requires.1, c.form.ensures, ← form-width t.long_string_refs k, ← form_unstored t.long_string_refs k) at c.read_value.ensures

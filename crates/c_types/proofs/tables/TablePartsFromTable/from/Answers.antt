use mathlib.Core.Path.{◌≡◌, refl}
use native.Mathlib.Omega.{arith}
use lib.ListN.{length}
use Rattle.column.specs.Columns.{building, finished}
use Rattle.cell.specs.declared.form.ColumnType.TheVariants.{Int16}
use Rattle.c_types.specs.Columns.{parts_of}
use Rattle.c_types.proofs.Mapped.{mapped_step}
use Rattle.c_types.proofs.tables.TablePartsFromTable.from.Goals as goal

pub loop-c-preserved : goal.loop-c-preserved
loop-c-preserved c =
    let whole : length c.args.table.columns ≡ 64 = omega arith in
    let l = c.loop-c in
    (refl, mapped_step parts_of c.args.table.columns _ l.columns l.c (finished building Int16) c.from.result l.invariant.1 (omega (arith, whole, c.loop-c-test.true)) c.from.ensures)

use mathlib.Core.Path.{◌≡◌, refl}
use native.Mathlib.Omega.{arith}
use lib.ListN.{length}
use Rattle.column.specs.Columns.{building}
use Rattle.c_types.specs.Columns.{column_from, builder_out_lem}
use Rattle.c_types.proofs.Mapped.{mapped_step}
use Rattle.c_types.proofs.tables.TableFromTableParts.from.Goals as goal

pub loop-c-preserved : goal.loop-c-preserved
loop-c-preserved c =
    let whole : length c.args.parts.columns ≡ 64 = omega arith in
    let l = c.loop-c in
    (refl, mapped_step column_from c.args.parts.columns _ l.columns l.c (builder_out_lem building) c.from.result l.invariant.1 (omega (arith, whole, c.loop-c-test.true)) c.from.ensures)

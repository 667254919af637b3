use mathlib.Core.Path.{◌≡◌}
use lib.ListN.{length}
use Rattle.c_types.specs.Columns.{column_from}
use Rattle.c_types.proofs.Mapped.{Mapped}
use Rattle.c_types.proofs.tables.TableFromTableParts.from.Given as goal

abbrev pub invariant-loop-c : goal.invariant-loop-c
invariant-loop-c l = (length l.initial.columns ≡ 64) × Mapped column_from l.parts.columns l.initial.columns l.columns l.c

use Rattle.widths.specs.Judged.{each_at}
use Rattle.table.specs.Layout.{unused}
use Rattle.column.specs.Columns.{building, bits_column}
use Rattle.common.specs.Answers.{gives, on_given}
use Rattle.common.specs.Lists.{over_at, ◌over◌}
use lib.ListN.{length, drop}
use mathlib.Core.Path.{◌≡◌}
use Rattle.table.proofs.layout.Table.from_bitfields.Given as goal

-- What the bitfields that are left make of the columns so far, is what all make.
abbrev pub invariant-loop-column : goal.invariant-loop-column
invariant-loop-column l = record {
  sized : length l.columns ≡ 64;
  left : on_given (each_at (bits_column building) l.column (drop l.column l.bits)) (λ xs. gives (over_at l.column xs l.columns)) ≡ on_given (each_at (bits_column building) 0 l.bits) (λ xs. gives (xs over unused));
}

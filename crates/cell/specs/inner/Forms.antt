-- The steps of judging a cell: the three kinds of column, by the cell's cases.
use Rattle.std.specs.Prelude.{ℕ, Bool}
use Rattle.common.specs.Answers.{Place, Answer, gives, refused}
use Rattle.cell.specs.declared.value.Cell.{Cell}
use Rattle.cell.specs.declared.value.Cell.TheVariants.{Null, Int, Str, Binary, Unknown}
use Rattle.cell.specs.Cells.{integer, reference_number}

abbrev pub integer_stored_lem : ℕ → Place → Cell → Answer ℕ
integer_stored_lem half at Null = gives 0
integer_stored_lem half at (Int n) = integer half at n
integer_stored_lem half at (Str n) = refused 16 at
integer_stored_lem half at Binary = refused 16 at
integer_stored_lem half at Unknown = refused 16 at

abbrev pub reference_stored_lem : Bool → Place → Cell → Answer ℕ
reference_stored_lem long at Null = gives 0
reference_stored_lem long at (Int n) = refused 16 at
reference_stored_lem long at (Str n) = reference_number long at n
reference_stored_lem long at Binary = refused 16 at
reference_stored_lem long at Unknown = refused 16 at

abbrev pub binary_stored_lem : Place → Cell → Answer ℕ
binary_stored_lem at Null = gives 0
binary_stored_lem at (Int n) = refused 16 at
binary_stored_lem at (Str n) = refused 16 at
binary_stored_lem at Binary = gives 1
binary_stored_lem at Unknown = refused 16 at

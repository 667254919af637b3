-- The points of specs/Points.antt, by computation.
use mathlib.Core.Path.{refl}
use Rattle.table.specs.Points.{ReadBefore7, ColumnBounds, CountBeforeColumns, FirstBadColumn, SizeBeforeCount, ColumnsBeforeRows, RowBounds, RowsBeforePlaces, CellCounts, CountsBeforeCells, CellsBeforeRoom, ColumnByColumn, WriteRoom, ReadRoom, PlaceBounds, NoColumns, StrayBytes}

pub column-bounds : ColumnBounds
column-bounds = (λ l. refl, λ l. (refl, refl), λ l. refl, λ l. (refl, refl))

pub count-before_columns : CountBeforeColumns
count-before_columns = (λ l. (refl, refl), λ l. (refl, refl))

pub first_bad_column : FirstBadColumn
first_bad_column = (λ l. (refl, refl), λ l. (refl, refl), λ l. refl)

pub size-before_count : SizeBeforeCount
size-before_count = (λ s e. rw e, λ s e. rw e)

pub columns_before_rows : ColumnsBeforeRows
columns_before_rows = (λ s e. rw e, λ out. refl)

pub row-bounds : RowBounds
row-bounds = (λ s e. rw e, λ s e. rw e, refl, λ out. refl)

pub rows_before-places : RowsBeforePlaces
rows_before-places = (λ s e. rw e, λ out. refl, λ out. refl)

pub cell-counts : CellCounts
cell-counts = (λ out. refl, λ out. refl, λ out. refl, λ out. refl)

pub counts-before_cells : CountsBeforeCells
counts-before_cells = λ out. refl

pub cells_before_room : CellsBeforeRoom
cells_before_room = (refl, refl)

pub column-by_column : ColumnByColumn
column-by_column = (λ out. refl, λ out. refl)

pub write_room : WriteRoom
write_room = (refl, refl, refl)

pub read_room : ReadRoom
read_room = (refl, refl, refl)

pub place_bounds : PlaceBounds
place_bounds = (refl, refl, refl)

pub no_columns : NoColumns
no_columns = (λ s e. rw e, λ s e. rw e)

pub stray-bytes : StrayBytes
stray-bytes = (refl, refl, refl, refl, refl, refl, refl, refl)

pub read_before_7 : ReadBefore7
read_before_7 = (λ s e. rw e, λ s e. rw e, λ s e. rw e, λ s e. rw e)

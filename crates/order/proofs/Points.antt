-- The points of specs/Points.antt, by computation.
use mathlib.Core.Path.{refl}
use Rattle.order.specs.Points.{UnderFour, OverSize, SizeFirst, OverEntries, EntryRoom, DataShort, TextRoom, LoadOrder, ShortFull, NumbersFull, TakeOrder, PastLast, CountZero, DropOrder, CodePage, OverRows, Outside, NotTheProduct, RowsFirst}

pub under_four : UnderFour
under_four = (refl, refl, refl)

pub over_size : OverSize
over_size = (refl, refl, refl, refl)

pub size-first : SizeFirst
size-first = (refl, refl)

pub over_entries : OverEntries
over_entries = (refl, refl)

pub entry-room : EntryRoom
entry-room = (refl, refl, refl, refl)

pub data_short : DataShort
data_short = (refl, refl)

pub text-room : TextRoom
text-room = (refl, refl, refl, refl, refl)

pub load_order : LoadOrder
load_order = (refl, refl, refl, refl)

pub short-full : ShortFull
short-full = (refl, refl, refl, refl)

pub numbers-full : NumbersFull
numbers-full = (refl, refl)

pub take-order : TakeOrder
take-order = (refl, refl, refl, refl)

pub past-last : PastLast
past-last = (refl, refl, refl)

pub count-zero : CountZero
count-zero = (refl, refl)

pub drop-order : DropOrder
drop-order = refl

pub code_page : CodePage
code_page = (refl, refl)

pub over_rows : OverRows
over_rows = (refl, refl)

pub outside : Outside
outside = (refl, refl, refl)

pub not_the_product : NotTheProduct
not_the_product = (refl, refl, refl, refl, refl)

pub rows_first : RowsFirst
rows_first = refl

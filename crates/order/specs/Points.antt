-- Points: each condition that is judged by numbers alone at its bound and one off, and each pair of document 01's orders by an input with both
-- faults, computed from the definitions.
use Rattle.std.specs.Prelude.{◌≡◌, true, false, ℕ}
use Rattle.common.specs.Sizes.{max_rows}
use Rattle.common.specs.Answers.{Answer, gives, refused, nowhere}
use Rattle.order.specs.Order.{page_fits_lem, streams_fit_lem, load_fits_lem, text_fits, add_fits_lem, drop_fits_lem, cell_fits_lem, bulk_fits_lem}

abbrev pub Passes : Answer (Unit {0}) → Type 0
Passes a = a ≡ gives tt

abbrev pub Refuses : ℕ → Answer (Unit {0}) → Type 0
Refuses n a = a ≡ refused n nowhere

-- ---- load: the sizes of the pool stream, the data stream and the text room; then entries, bytes used, entry room, data stream, text room

-- "1 pool stream under 4 bytes"
abbrev pub UnderFour : Type 0
UnderFour = Refuses 1 (streams_fit_lem 0 0 0) × Refuses 1 (streams_fit_lem 3 0 0) × Passes (streams_fit_lem 4 0 0)

-- "22 stream, text, name or text room above the sizes": each of the three
abbrev pub OverSize : Type 0
OverSize = Passes (streams_fit_lem 268435455 268435455 268435455) × Refuses 22 (streams_fit_lem 268435456 0 0)
    × Refuses 22 (streams_fit_lem 4 268435456 0) × Refuses 22 (streams_fit_lem 4 0 268435456)

-- "Order: 22 first": 3 bytes of a pool stream beside a data stream or a text room above the size
abbrev pub SizeFirst : Type 0
SizeFirst = Refuses 22 (streams_fit_lem 3 268435456 0) × Refuses 22 (streams_fit_lem 3 0 268435456)

-- "3 over 16,777,215 entries"
abbrev pub OverEntries : Type 0
OverEntries = Passes (load_fits_lem 16777215 0 16777215 0 0) × Refuses 3 (load_fits_lem 16777216 0 16777216 0 0)

-- "4 more entries than the lent entry room holds": in a load, and in a take
abbrev pub EntryRoom : Type 0
EntryRoom = Passes (load_fits_lem 2 0 2 0 0) × Refuses 4 (load_fits_lem 2 0 1 0 0) × Passes (add_fits_lem true 1 2 0 0) × Refuses 4 (add_fits_lem true 1 1 0 0)

-- "5 data stream shorter than the lengths' sum"
abbrev pub DataShort : Type 0
DataShort = Passes (load_fits_lem 1 8 1 8 8) × Refuses 5 (load_fits_lem 1 8 1 7 8)

-- "6 text room too small": in a load, in a take of a free entry, and in one that adds
abbrev pub TextRoom : Type 0
TextRoom = Refuses 6 (load_fits_lem 1 8 1 8 7) × Passes (text_fits 8 8) × Refuses 6 (text_fits 8 7) × Passes (add_fits_lem false 0 1 8 8) × Refuses 6 (add_fits_lem false 0 1 8 7)

-- "Load: 1, 2, 3, 4, 5, 6", of which numbers alone decide 3 to 6: with the faults of all from 3 on, from 4 on, from 5 on
abbrev pub LoadOrder : Type 0
LoadOrder = Refuses 3 (load_fits_lem 16777216 1 0 0 0) × Refuses 4 (load_fits_lem 1 1 0 0 0) × Refuses 5 (load_fits_lem 1 1 1 0 0) × Refuses 6 (load_fits_lem 1 1 1 1 0)

-- ---- take: long references, entries, entry room, bytes used afterwards, text room

-- "11 new entry wanted, short references, 65,535 or more entries"
abbrev pub ShortFull : Type 0
ShortFull = Passes (add_fits_lem false 65534 65535 0 0) × Refuses 11 (add_fits_lem false 65535 65536 0 0) × Refuses 11 (add_fits_lem false 65536 65537 0 0) × Passes (add_fits_lem true 65535 65536 0 0)

-- "12 new entry wanted, 16,777,215 entries"
abbrev pub NumbersFull : Type 0
NumbersFull = Passes (add_fits_lem true 16777214 16777215 0 0) × Refuses 12 (add_fits_lem true 16777215 16777216 0 0)

-- "Take: 11, 12, 4, 6": with the faults of all, from 12 on, from 4 on
abbrev pub TakeOrder : Type 0
TakeOrder = Refuses 11 (add_fits_lem false 16777215 0 1 0) × Refuses 12 (add_fits_lem true 16777215 0 1 0) × Refuses 4 (add_fits_lem true 0 0 1 0) × Refuses 6 (add_fits_lem true 0 1 1 0)

-- ---- drop: entries, place, count

-- "9 drop past the last entry"
abbrev pub PastLast : Type 0
PastLast = Passes (drop_fits_lem 2 1 1) × Refuses 9 (drop_fits_lem 2 2 1) × Refuses 9 (drop_fits_lem 0 0 1)

-- "10 drop of a count of 0"
abbrev pub CountZero : Type 0
CountZero = Passes (drop_fits_lem 1 0 1) × Refuses 10 (drop_fits_lem 1 0 0)

-- "Drop: 8, 9, 10": past the last entry, with a count of 0
abbrev pub DropOrder : Type 0
DropOrder = Refuses 9 (drop_fits_lem 1 1 0)

-- ---- code page, and a table's rows, columns, kinds and numbers

-- "21 code page above 2,147,483,647"
abbrev pub CodePage : Type 0
CodePage = Passes (page_fits_lem 2147483647) × Refuses 21 (page_fits_lem 2147483648)

-- "14 over 65,536 rows"
abbrev pub OverRows : Type 0
OverRows = Passes (bulk_fits_lem max_rows 65536 1 65536 65536) × Refuses 14 (bulk_fits_lem max_rows 65537 1 65537 65537)

-- "15 row or column outside the table"
abbrev pub Outside : Type 0
Outside = Passes (cell_fits_lem 2 3 1 2) × Refuses 15 (cell_fits_lem 2 3 2 2) × Refuses 15 (cell_fits_lem 2 3 1 3)

-- "23 kinds or numbers handed over not rows times columns"
abbrev pub NotTheProduct : Type 0
NotTheProduct = Passes (bulk_fits_lem max_rows 2 3 6 6) × Refuses 23 (bulk_fits_lem max_rows 2 3 5 6) × Refuses 23 (bulk_fits_lem max_rows 2 3 7 6)
    × Refuses 23 (bulk_fits_lem max_rows 2 3 6 5) × Refuses 23 (bulk_fits_lem max_rows 2 3 6 7)

-- "14, then 15 or 23"
abbrev pub RowsFirst : Type 0
RowsFirst = Refuses 14 (bulk_fits_lem max_rows 65537 1 0 0)

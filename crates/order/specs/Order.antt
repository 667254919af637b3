-- Document 01, "Order", by numbers alone: the first refusal that a call meets, or none.
use Rattle.std.specs.Prelude.{ℕ, ◌*◌, Bool, not, ◌&&◌, ◌||◌}
use Rattle.common.specs.Choice.{when◌then◌else◌, ◌<?◌, ◌≤?◌, ◌=?◌}
use Rattle.common.specs.Sizes.{max_bytes, max_entries, max_codepage}
use Rattle.common.specs.Answers.{Answer, gives, refused, nowhere}

-- "Making an empty (short) pool or setting the code page: 21."
abbrev pub page_fits_lem : ℕ → Answer (Unit {0})
page_fits_lem codepage = when max_codepage <? codepage then refused 21 nowhere else gives tt

-- "22 first"; "Load: 1, 2, 3, 4, 5, 6": 1, by the sizes of the pool stream, the data stream and the text room
abbrev pub streams_fit_lem : ℕ → ℕ → ℕ → Answer (Unit {0})
streams_fit_lem pool stream text =
    when max_bytes <? pool || max_bytes <? stream || max_bytes <? text then refused 22 nowhere
    else when pool <? 4 then refused 1 nowhere
    else gives tt

-- then 3, 4, 5, 6: n entries whose texts take `used` bytes, the entry room, the data stream and the text room
abbrev pub load_fits_lem : ℕ → ℕ → ℕ → ℕ → ℕ → Answer (Unit {0})
load_fits_lem n used entries stream text =
    when max_entries <? n then refused 3 nowhere
    else when entries <? n then refused 4 nowhere
    else when stream <? used then refused 5 nowhere
    else when text <? used then refused 6 nowhere
    else gives tt

-- "6 exactly if the total after the replacement or addition exceeds the text room"
abbrev pub text_fits : ℕ → ℕ → Answer (Unit {0})
text_fits after text = when text <? after then refused 6 nowhere else gives tt

-- "Take: 11, 12, 4, 6", where a new entry is wanted after n, in a pool with long references or with short ones
abbrev pub add_fits_lem : Bool → ℕ → ℕ → ℕ → ℕ → Answer (Unit {0})
add_fits_lem long n entries after text =
    when not long && 65535 ≤? n then refused 11 nowhere
    else when max_entries ≤? n then refused 12 nowhere
    else when entries ≤? n then refused 4 nowhere
    else text_fits after text

-- "Drop: 8, 9, 10": "drop past the last entry", "drop of a count of 0"
abbrev pub drop_fits_lem : ℕ → ℕ → ℕ → Answer (Unit {0})
drop_fits_lem n place count =
    when n ≤? place then refused 9 nowhere
    else when count =? 0 then refused 10 nowhere
    else gives tt

-- "Table: .. 14, then 15 or 23": "row or column outside the table"
abbrev pub cell_fits_lem : ℕ → ℕ → ℕ → ℕ → Answer (Unit {0})
cell_fits_lem rows columns r c = when r <? rows && c <? columns then gives tt else refused 15 nowhere

-- "kinds or numbers handed over not rows times columns"; at most `most` rows
abbrev pub bulk_fits_lem : ℕ → ℕ → ℕ → ℕ → ℕ → Answer (Unit {0})
bulk_fits_lem most rows columns kinds numbers =
    when most <? rows then refused 14 nowhere
    else when not (kinds =? rows * columns && numbers =? rows * columns) then refused 23 nowhere
    else gives tt

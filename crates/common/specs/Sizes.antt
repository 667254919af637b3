-- Document 01, "Sizes". src/sizes.rt has the same numbers for the code.
use Rattle.std.specs.Prelude.{ℕ}

-- "Entries 16,777,215"; also the largest reference number
abbrev pub max_entries : ℕ
max_entries = 16777215

-- "text room at most 268,435,455 bytes"; so are streams read or written, and texts handed in
abbrev pub max_bytes : ℕ
max_bytes = 268435455

-- "names 65,535 units, 65,536 in stored form"
abbrev pub max_name : ℕ
max_name = 65535

abbrev pub max_stored : ℕ
max_stored = 65536

-- "columns 64; rows 65,536; Str maximum 0 to 255"
abbrev pub max_columns : ℕ
max_columns = 64

abbrev pub max_rows : ℕ
max_rows = 65536

abbrev pub max_string : ℕ
max_string = 255

-- the code page is a 31-bit number
abbrev pub max_codepage : ℕ
max_codepage = 2147483647

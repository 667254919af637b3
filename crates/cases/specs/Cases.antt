-- Document 01, "The proved table (13)". The comments are the lines that crates/cases_runs writes; .ci/trace compares them.
use Rattle.std.specs.Prelude.{ℕ, ◌≡◌, true, false, List, [], ◌∷◌, map, ℤ, pos, negsuc}
use Rattle.common.specs.Answers.{gives, column}
use Rattle.cell.specs.declared.form.ColumnType.TheVariants.{Str, Binary}
use Rattle.cases.specs.Shown.{Asked, name, written, bits, loaded, taken, Shown, units, bytes, type, pool, answers, refuses, answer_shown}

pub record Case : Type 0 where
  pub asked : Asked
  pub said : Shown

abbrev pub case : Asked → Shown → Case
case x y = record { asked = x; said = y }

-- an Int16 cell
abbrev pub int16 : ℤ → Asked
int16 n = written (pos 0x502 ∷ []) 1 (record { kinds = 1 ∷ []; numbers = n ∷ [] })

abbrev pub k_pool : List ℕ
k_pool = 0xE4 ∷ 0x04 ∷ 0x00 ∷ 0x00 ∷ 0x04 ∷ 0x00 ∷ 0x02 ∷ 0x00 ∷ 0x00 ∷ 0x00 ∷ 0x00 ∷ 0x00 ∷ 0x00 ∷ 0x00 ∷ 0x01 ∷ 0x00 ∷ 0x00 ∷ 0x00 ∷ 0x00 ∷ 0x00 ∷ []

abbrev pub k_data : List ℕ
k_data = 0x4E ∷ 0x61 ∷ 0x6D ∷ 0x65 ∷ []

-- a "Ab" table: 4840 414A
abbrev pub a : Case
a = case (name (0x41 ∷ 0x62 ∷ []) true) (units (0x4840 ∷ 0x414A ∷ []))

-- b "a-b" plain: 4824 002D 4825
abbrev pub b : Case
b = case (name (0x61 ∷ 0x2D ∷ 0x62 ∷ []) false) (units (0x4824 ∷ 0x002D ∷ 0x4825 ∷ []))

-- c "__": 47FF
abbrev pub c : Case
c = case (name (0x5F ∷ 0x5F ∷ []) false) (units (0x47FF ∷ []))

-- d "" table: 4840
abbrev pub d : Case
d = case (name [] true) (units (0x4840 ∷ []))

-- e Int16 1: 01 80
abbrev pub e : Case
e = case (int16 (pos 1)) (bytes (0x01 ∷ 0x80 ∷ []))

-- f Int16 -1: FF 7F
abbrev pub f : Case
f = case (int16 (negsuc 0)) (bytes (0xFF ∷ 0x7F ∷ []))

-- g Int16 0: 00 80
abbrev pub g : Case
g = case (int16 (pos 0)) (bytes (0x00 ∷ 0x80 ∷ []))

-- h bits 0x2900: Str 0
abbrev pub h : Case
h = case (bits (pos 0x2900)) (type (Str 0))

-- i bits 0x404: Binary
abbrev pub i : Case
i = case (bits (pos 0x404)) (type Binary)

-- j bits 0x503: 13 at column 0
abbrev pub j : Case
j = case (bits (pos 0x503)) (refuses 13 (column 0))

-- k Pool E4 04 00 00, 04 00 02 00, 00 00 00 00, 00 00 01 00 00 00 00 00 with data 4E 61 6D 65: code page 1252, "Name" twice, free, "" once
abbrev pub k : Case
k = case (loaded k_pool k_data) (pool 1252 ((gives k_data, gives 2) ∷ (gives [], gives 0) ∷ (gives [], gives 1) ∷ []))

-- l On k, take of "" by the first free or equal: answers 2, a duplicate: "Name" twice, "" once, "" once
abbrev pub l : Case
l = case (taken k_pool k_data []) (answers (pos 2) ((gives k_data, gives 2) ∷ (gives [], gives 1) ∷ (gives [], gives 1) ∷ []))

-- m Int16 and Str 8, short, rows (1, ref 3), (-1, Null): 01 80 FF 7F 03 00 00 00
abbrev pub m : Case
m = case (written (pos 0x502 ∷ pos 0xD08 ∷ []) 2 (record { kinds = 1 ∷ 2 ∷ 1 ∷ 0 ∷ []; numbers = pos 1 ∷ pos 3 ∷ negsuc 0 ∷ pos 0 ∷ [] }))
    (bytes (0x01 ∷ 0x80 ∷ 0xFF ∷ 0x7F ∷ 0x03 ∷ 0x00 ∷ 0x00 ∷ 0x00 ∷ []))

-- "Cases a to m form a single list with a single proved statement"
abbrev pub cases : List Case
cases = a ∷ b ∷ c ∷ d ∷ e ∷ f ∷ g ∷ h ∷ i ∷ j ∷ k ∷ l ∷ m ∷ []

-- each is answered as document 01 says
abbrev pub Cases : Type 0
Cases = map (λ (x : Case). answer_shown x.asked) cases ≡ map (λ (x : Case). x.said) cases

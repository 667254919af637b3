-- Points: kinds and types that C hands over as numbers, the known and the unknown; each computed from the definitions.
use Rattle.std.specs.Prelude.{ℕ, ◌≡◌, true, false, List, [], ◌∷◌, pos, length}
use Rattle.common.specs.Answers.{Answer, gives, refused, nowhere, column, refusal_of}
use Rattle.stringpool.specs.declared.pool.StringPool.{StringPool}
use Rattle.stringpool.specs.Pool.{Rooms, rooms}
use Rattle.stringpool.specs.Take.{Chooser}
use Rattle.pool_values.specs.Points.{OnState}
use Rattle.column.specs.declared.column.Column.{Column}
use Rattle.widths.specs.Judged.{sound_columns}
use Rattle.c_types.specs.Tables.{table_in_lem, on_table}
use Rattle.c_types.specs.Values.{create_by, remove_by, shown_by, text_by, check_by}
use Rattle.c_types.specs.declared.answers.ColumnParts.{ColumnParts}
use Rattle.c_types.specs.declared.answers.TableParts.{TableParts}

-- ---- a value with a pool, whatever the choice of a take

-- "16: kind of cell .. is unknown": 4 and 255 are, 3 is not
abbrev pub UnknownKind : Type 0
UnknownKind = (choose : Chooser) →
    OnState true (λ p w. create_by choose 3 (pos 0) [] p w ≡ gives (((3, pos 0), p), w)) × OnState true (λ p w. create_by choose 4 (pos 0) [] p w ≡ refused 16 nowhere)
    × OnState true (λ p w. create_by choose 255 (pos 0) [] p w ≡ refused 16 nowhere)
    × OnState true (λ p w. remove_by 3 (pos 0) p w ≡ gives (p, w)) × OnState true (λ p w. remove_by 4 (pos 0) p w ≡ refused 16 nowhere)
    × OnState true (λ p w. shown_by 3 (pos 0) p w ≡ gives (3, pos 0)) × OnState true (λ p w. shown_by 4 (pos 0) p w ≡ refused 16 nowhere)
    × OnState true (λ p w. text_by 3 (pos 0) p w ≡ gives []) × OnState true (λ p w. text_by 4 (pos 0) p w ≡ refused 16 nowhere)

-- "22 first, then 24": a value of an unknown kind is 16 after both
abbrev pub KindLast : Type 0
KindLast = (choose : Chooser) →
    OnState false (λ p w. create_by choose 4 (pos 0) [] p w ≡ refused 24 nowhere) × OnState false (λ p w. remove_by 4 (pos 0) p w ≡ refused 24 nowhere)
    × OnState false (λ p w. shown_by 4 (pos 0) p w ≡ refused 24 nowhere) × OnState false (λ p w. text_by 4 (pos 0) p w ≡ refused 24 nowhere)
    × ((p : StringPool) (w : Rooms) (new : List ℕ) → length new ≡ 268435456 → create_by choose 4 (pos 0) new p w ≡ refused 22 nowhere)
    × ((p : StringPool) (lengths counts text : List ℕ) → length text ≡ 268435456 → remove_by 4 (pos 0) p (rooms lengths counts text) ≡ refused 22 nowhere)

-- ---- a column, and a value beside it

-- a column of this type and maximum, with no marks
abbrev pub typed : ℕ → ℕ → ColumnParts
typed t max = record { coltype = t; max_len = max; is_localizable = false; is_nullable = false; is_primary_key = false; has_range = false; min = pos 0; max = pos 0 }

-- the value check: 22, then the column's 19 or 16, then 16 for the value; a type of 3 is known, and 4 is 16, not 19
abbrev pub CheckLast : Type 0
CheckLast =
    (check_by (typed 0 0) 3 (pos 0) [] ≡ gives false) × (check_by (typed 0 0) 4 (pos 0) [] ≡ refused 16 (column 0))
    × (check_by (typed 0 0) 255 (pos 0) [] ≡ refused 16 (column 0))
    × (check_by (typed 3 0) 3 (pos 0) [] ≡ gives true) × (check_by (typed 4 0) 3 (pos 0) [] ≡ refused 16 (column 0))
    × (check_by (typed 2 256) 4 (pos 0) [] ≡ refused 19 (column 0)) × (check_by (typed 4 256) 4 (pos 0) [] ≡ refused 16 (column 0))
    × ((text : List ℕ) → length text ≡ 268435456 → check_by (typed 4 0) 4 (pos 0) text ≡ refused 22 nowhere)

-- ---- a table

-- what judging these columns, of which the first n are in use, comes to
abbrev pub judged : ℕ → List ColumnParts → Answer (List Column)
judged n columns =
    let t : TableParts = record { columns = columns; count = n; long_string_refs = false } in
    on_table t (sound_columns (table_in_lem t).columns (table_in_lem t).count)

-- "13 or 19 at the first bad column", and 16 where its type is unknown: whichever the first bad one is; a column past those in use is not judged
abbrev pub FirstBad : Type 0
FirstBad =
    (judged 2 (typed 4 0 ∷ typed 2 256 ∷ []) ≡ refused 16 (column 0)) × (judged 2 (typed 2 256 ∷ typed 4 0 ∷ []) ≡ refused 19 (column 0))
    × (judged 2 (typed 0 0 ∷ typed 4294967295 0 ∷ []) ≡ refused 16 (column 1)) × (refusal_of (judged 1 (typed 0 0 ∷ typed 4 0 ∷ [])) ≡ gives tt)

-- "20" before them: of 65 columns, the first of an unknown type
abbrev pub TwentyFirst : Type 0
TwentyFirst = judged 65 (typed 4 0 ∷ []) ≡ refused 20 nowhere

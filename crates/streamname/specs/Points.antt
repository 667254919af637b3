-- Points: the calls at their bounds and one past them, each computed from the definition.
use Rattle.std.specs.Prelude.{◌≡◌, Bool, true, false, List, [], ◌∷◌, ℕ, replicate}
use Rattle.common.specs.Answers.{gives, refused, nowhere}
use Rattle.streamname.specs.Names.{encoded_name, decoded_name, is_table}
use Rattle.streamname.specs.Calls.{encode_outcome, decode_outcome, valid_answer}
use Rattle.streamname.specs.Promises.{Coded}

-- ---- what is written

-- the stored form of a name
abbrev pub Stored : List ℕ → Bool → List ℕ → Type 0
Stored name table units = encoded_name name table ≡ units

-- "Two such units a, b become 0x3800 + 64b + a, taken greedily; a lone one 0x4800 + a; others pass": `abc` is a pair and a lone one, not a
-- lone one and a pair; so is `cde` behind a dash, and `ab` and `cd` are two pairs
abbrev pub Greedy : Type 0
Greedy = Stored (0x61 ∷ 0x62 ∷ 0x63 ∷ []) false (0x4164 ∷ 0x4826 ∷ [])
    × Stored (0x61 ∷ 0x62 ∷ 0x2D ∷ 0x63 ∷ 0x64 ∷ 0x65 ∷ []) false (0x4164 ∷ 0x002D ∷ 0x41E6 ∷ 0x4828 ∷ [])
    × Stored (0x61 ∷ 0x62 ∷ 0x63 ∷ 0x64 ∷ []) true (0x4840 ∷ 0x4164 ∷ 0x41E6 ∷ [])

-- "Digits, A-Z, a-z, `.`, `_` are 0 to 63": the first and the last of each, alone, and their neighbours, which pass
abbrev pub LoneLetters : Type 0
LoneLetters =
    Stored (0x2F ∷ []) false (0x2F ∷ []) × Stored (0x30 ∷ []) false (0x4800 ∷ []) × Stored (0x39 ∷ []) false (0x4809 ∷ []) × Stored (0x3A ∷ []) false (0x3A ∷ [])
    × Stored (0x40 ∷ []) false (0x40 ∷ []) × Stored (0x41 ∷ []) false (0x480A ∷ []) × Stored (0x5A ∷ []) false (0x4823 ∷ []) × Stored (0x5B ∷ []) false (0x5B ∷ [])
    × Stored (0x60 ∷ []) false (0x60 ∷ []) × Stored (0x61 ∷ []) false (0x4824 ∷ []) × Stored (0x7A ∷ []) false (0x483D ∷ []) × Stored (0x7B ∷ []) false (0x7B ∷ [])
    × Stored (0x2E ∷ []) false (0x483E ∷ []) × Stored (0x5F ∷ []) false (0x483F ∷ []) × Stored (0x80 ∷ []) false (0x80 ∷ [])

-- ---- what is read

-- "undoes 0x3800-0x47FF and 0x4800-0x483F": both ends of each, and the neighbours, which pass
abbrev pub Undone : Type 0
Undone =
    (decoded_name (0x37FF ∷ []) ≡ 0x37FF ∷ []) × (decoded_name (0x3800 ∷ []) ≡ 0x30 ∷ 0x30 ∷ []) × (decoded_name (0x47FF ∷ []) ≡ 0x5F ∷ 0x5F ∷ [])
    × (decoded_name (0x4800 ∷ []) ≡ 0x30 ∷ []) × (decoded_name (0x483F ∷ []) ≡ 0x5F ∷ []) × (decoded_name (0x41 ∷ 0x4840 ∷ []) ≡ 0x41 ∷ 0x4840 ∷ [])

-- "strips one leading 0x4840": the second one stays
abbrev pub OnePrefix : Type 0
OnePrefix = (decode_outcome (0x4840 ∷ 0x4840 ∷ []) (9 ∷ 9 ∷ []) ≡ (gives (1, true), 0x4840 ∷ 9 ∷ [])) × (decode_outcome (0x41 ∷ 0x4840 ∷ []) (9 ∷ 9 ∷ []) ≡ (gives (2, false), 0x41 ∷ 0x4840 ∷ []))

-- "exactly when no unit lies in 0x3800-0x483F and a plain name does not begin with 0x4840": both ends lie there and their neighbours do not
abbrev pub CodedBounds : Type 0
CodedBounds = (¬ Coded 0x37FF) × Coded 0x3800 × Coded 0x483F × (¬ Coded 0x4840)

-- so what comes back of such a name: itself, two letters, one letter; 0x4840 inside a name, and in front of a plain one, which is taken for a table's
abbrev pub ComesBack : Type 0
ComesBack =
    (decoded_name (encoded_name (0x37FF ∷ []) false) ≡ 0x37FF ∷ []) × (decoded_name (encoded_name (0x3800 ∷ []) false) ≡ 0x30 ∷ 0x30 ∷ [])
    × (decoded_name (encoded_name (0x483F ∷ []) false) ≡ 0x5F ∷ []) × (decoded_name (encoded_name (0x41 ∷ 0x4840 ∷ []) false) ≡ 0x41 ∷ 0x4840 ∷ [])
    × (is_table (encoded_name (0x4840 ∷ []) false) ≡ true) × (is_table (encoded_name (0x41 ∷ []) false) ≡ false)

-- ---- refusals

-- "7 output too small for the whole result": a unit less, which stays as it was, and enough
abbrev pub EncodeRoom : Type 0
EncodeRoom = (encode_outcome (0x41 ∷ 0x62 ∷ []) true (9 ∷ []) ≡ (refused 7 nowhere, 9 ∷ [])) × (encode_outcome (0x41 ∷ 0x62 ∷ []) true (9 ∷ 9 ∷ []) ≡ (gives 2, 0x4840 ∷ 0x414A ∷ []))
    × (encode_outcome (0x41 ∷ 0x62 ∷ []) false [] ≡ (refused 7 nowhere, [])) × (encode_outcome (0x41 ∷ 0x62 ∷ []) false (9 ∷ []) ≡ (gives 1, 0x414A ∷ []))
    × (encode_outcome [] false [] ≡ (gives 0, [])) × (encode_outcome [] true [] ≡ (refused 7 nowhere, []))

abbrev pub DecodeRoom : Type 0
DecodeRoom = (decode_outcome (0x4840 ∷ 0x414A ∷ []) (9 ∷ []) ≡ (refused 7 nowhere, 9 ∷ [])) × (decode_outcome (0x4840 ∷ 0x414A ∷ []) (9 ∷ 9 ∷ 9 ∷ []) ≡ (gives (2, true), 0x41 ∷ 0x62 ∷ 9 ∷ []))
    × (decode_outcome (0x4840 ∷ []) [] ≡ (gives (0, true), []))

-- "names 65,535 units": one more is 22, also where the output has no room, "22 first"
abbrev pub NameSize : Type 0
NameSize = (encode_outcome (replicate 65535 0x30) false [] ≡ (refused 7 nowhere, [])) × (encode_outcome (replicate 65536 0x30) false [] ≡ (refused 22 nowhere, []))
    × (valid_answer (replicate 65535 0x30) false ≡ gives false) × (valid_answer (replicate 65536 0x30) false ≡ refused 22 nowhere)

-- "65,536 in stored form": one more is 22, and so is a name of 65,536 units in a stored form of 32,768; both before 7
abbrev pub StoredLimit : Type 0
StoredLimit =
    (decode_outcome (0x4840 ∷ replicate 65535 0x2D) [] ≡ (refused 7 nowhere, [])) × (decode_outcome (0x4840 ∷ replicate 65536 0x2D) [] ≡ (refused 22 nowhere, []))
    × (decode_outcome (0x4800 ∷ replicate 32767 0x3800) [] ≡ (refused 7 nowhere, [])) × (decode_outcome (replicate 32768 0x3800) [] ≡ (refused 22 nowhere, []))

-- ---- valid names

-- "Valid: not empty"
abbrev pub EmptyName : Type 0
EmptyName = (valid_answer [] true ≡ gives false) × (valid_answer [] false ≡ gives false) × (valid_answer (0x41 ∷ []) false ≡ gives true)

-- "at most 31 encoded units", a table's prefix among them: dashes, which pass, and letters, of which two are one unit
abbrev pub ThirtyOne : Type 0
ThirtyOne =
    (valid_answer (replicate 31 0x2D) false ≡ gives true) × (valid_answer (replicate 32 0x2D) false ≡ gives false)
    × (valid_answer (replicate 30 0x2D) true ≡ gives true) × (valid_answer (replicate 31 0x2D) true ≡ gives false)
    × (valid_answer (replicate 62 0x41) false ≡ gives true) × (valid_answer (replicate 63 0x41) false ≡ gives false)
    × (valid_answer (replicate 60 0x41) true ≡ gives true) × (valid_answer (replicate 61 0x41) true ≡ gives false)

-- ---- document 02, E1

-- the unit alone is answered so, "table or plain"
abbrev pub Alone : ℕ → Bool → Type 0
Alone unit answer = (valid_answer (unit ∷ []) true ≡ gives answer) × (valid_answer (unit ∷ []) false ≡ gives answer)

-- "[MS-CFB] forbids `/`, `\`, `:` and `!` in a name": these four, and neither neighbour of any
abbrev pub FourCharacters : Type 0
FourCharacters =
    Alone 0x20 true × Alone 0x21 false × Alone 0x22 true
    × Alone 0x2E true × Alone 0x2F false × Alone 0x30 true
    × Alone 0x39 true × Alone 0x3A false × Alone 0x3B true
    × Alone 0x5B true × Alone 0x5C false × Alone 0x5D true

-- "a unit from 0x3800 to 0x483F": both ends, both kinds of code, and neither neighbour
abbrev pub CodedUnits : Type 0
CodedUnits = Alone 0x37FF true × Alone 0x3800 false × Alone 0x47FF false × Alone 0x4800 false × Alone 0x483F false × Alone 0x4841 true

-- the prefix of a table is none of them: in front of a table's name and inside any name it is taken, in front of a plain one as before not
abbrev pub PrefixUnit : Type 0
PrefixUnit =
    (valid_answer (0x4840 ∷ []) true ≡ gives true)
    × (valid_answer (0x4840 ∷ []) false ≡ gives false)
    × (valid_answer (0x41 ∷ 0x4840 ∷ []) false ≡ gives true)

-- the rule looks at every unit: a forbidden one first, in the middle and last
abbrev pub AnyPlace : Type 0
AnyPlace =
    (valid_answer (0x2F ∷ 0x41 ∷ 0x42 ∷ []) false ≡ gives false)
    × (valid_answer (0x41 ∷ 0x2F ∷ 0x42 ∷ []) false ≡ gives false)
    × (valid_answer (0x41 ∷ 0x42 ∷ 0x2F ∷ []) false ≡ gives false)
    × (valid_answer (0x41 ∷ 0x42 ∷ 0x41 ∷ []) false ≡ gives true)

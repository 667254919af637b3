-- What is promised of stream names.
use Rattle.std.specs.Prelude.{ℕ, ◌+◌, ◌≤◌, ◌<◌, ◌≡◌, ◌↔◌, ◌≢◌, Bool, true, false, List, [], length, take, get_or}
use Rattle.common.specs.Sizes.{max_name, max_stored}
use Rattle.common.specs.Lists.{◌over◌}
use Rattle.common.specs.Answers.{Answer, gives, refused}
use Rattle.streamname.specs.Names.{encoded_name, decoded_name, is_table}
use Rattle.streamname.specs.Calls.{encode_outcome, decode_outcome, valid_answer}

-- "no unit lies in 0x3800-0x483F and a plain name does not begin with 0x4840"
abbrev pub Coded : ℕ → Type 0
Coded u = (0x3800 ≤ u) × (u ≤ 0x483F)

abbrev pub Returns : List ℕ → Bool → Type 0
Returns name table = ((k : ℕ) → k < length name → ¬ Coded (get_or name k 0)) × (table ≡ false → get_or name 0 0 ≢ 0x4840)

-- "Decoding an encoded name returns name and flag exactly when"
abbrev pub RoundTrip : Type 0
RoundTrip = (name : List ℕ) (table : Bool)
    → ((decoded_name (encoded_name name table) ≡ name) × (is_table (encoded_name name table) ≡ table)) ↔ Returns name table

-- a stored name has at most one unit more than the name, and is within the stored size
abbrev pub StoredSize : Type 0
StoredSize = (name : List ℕ) (table : Bool)
    → (length (encoded_name name table) ≤ length name + 1) × (length name ≤ max_name → length (encoded_name name table) ≤ max_stored)

-- the units that a call answers to have written
abbrev pub written : Answer ℕ × List ℕ → List ℕ
written (gives n, out) = take n out
written (refused n at, out) = []

-- the same through the calls: `decode` of what `encode` wrote, where both have room
abbrev pub CallsReturn : Type 0
CallsReturn = (name : List ℕ) (table : Bool) (out back : List ℕ) → length name ≤ max_name → length (encoded_name name table) ≤ length out → length name ≤ length back
    → (decode_outcome (written (encode_outcome name table out)) back ≡ (gives (length name, table), name over back)) ↔ Returns name table

-- document 02, E1: "every valid name decodes from its stored form to itself with its flag"
abbrev pub ValidReturns : Type 0
ValidReturns = (name : List ℕ) (table : Bool) (out back : List ℕ) → valid_answer name table ≡ gives true → length (encoded_name name table) ≤ length out → length name ≤ length back
    → decode_outcome (written (encode_outcome name table out)) back ≡ (gives (length name, table), name over back)

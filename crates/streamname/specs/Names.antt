-- Document 01, "Stream names, in UTF-16 units": the stored form of a name, and back.
use Rattle.std.specs.Prelude.{ℕ, ◌+◌, ◌*◌, ◌-◌, ◌/◌, ◌%◌, Bool, not, ◌&&◌, ◌||◌, List, [], ◌∷◌, map, length, drop, get_or, Option, Some, None}
use Rattle.common.specs.Choice.{when◌then◌else◌, ◌≤?◌, ◌=?◌}
use Rattle.common.specs.Lists.{joined, every}
use Rattle.streamname.specs.Letters.{to_b64_lem, from_b64_lem}

-- "Two such units a, b become 0x3800 + 64b + a"
abbrev pub pair : Option ℕ → Option ℕ → Option ℕ
pair (Some a) (Some b) = Some (0x3800 + 64 * b + a)
pair (Some a) None = None
pair None (Some b) = None
pair None None = None

-- "a lone one 0x4800 + a; others pass"
abbrev pub lone : Option ℕ → ℕ → ℕ
lone (Some a) u = 0x4800 + a
lone None u = u

-- "taken greedily": a pair where there is one
abbrev pub greedy : Option ℕ → List ℕ → List ℕ → List ℕ
greedy (Some unit) paired apart = unit ∷ paired
greedy None paired apart = apart

unfoldable pub encoded : List ℕ → List ℕ
encoded [] = []
encoded (u ∷ []) = lone (to_b64_lem u) u ∷ []
encoded (u ∷ v ∷ rest) =
    let paired = encoded rest in
    let apart = lone (to_b64_lem u) u ∷ encoded (v ∷ rest) in
    greedy (pair (to_b64_lem u) (to_b64_lem v)) paired apart

-- "A table name gets 0x4840 in front."
abbrev pub encoded_name : List ℕ → Bool → List ℕ
encoded_name name table = when table then 0x4840 ∷ encoded name else encoded name

-- "Decoding strips one leading 0x4840"
abbrev pub is_table : List ℕ → Bool
is_table stored = get_or stored 0 0 =? 0x4840

abbrev pub stripped : List ℕ → List ℕ
stripped stored = when is_table stored then drop 1 stored else stored

-- "and undoes 0x3800-0x47FF and 0x4800-0x483F"
abbrev pub between : ℕ → ℕ → ℕ → Bool
between low high u = low ≤? u && u ≤? high

unfoldable pub undone : ℕ → List ℕ
undone v =
    when between 0x3800 0x47FF v then from_b64_lem ((v - 0x3800) % 64) ∷ from_b64_lem ((v - 0x3800) / 64) ∷ []
    else when between 0x4800 0x483F v then from_b64_lem (v - 0x4800) ∷ []
    else v ∷ []

unfoldable pub decoded : List ℕ → List ℕ
decoded stored = joined (map undone stored)

abbrev pub decoded_name : List ℕ → List ℕ
decoded_name stored = decoded (stripped stored)

-- document 02, E1: a name has none of `!`, `/`, `:` and `\`, which [MS-CFB] forbids, and no unit from 0x3800 to 0x483F, which would be
-- shown as other letters
abbrev pub allowed : ℕ → Bool
allowed u = not (u =? 0x21 || u =? 0x2F || u =? 0x3A || u =? 0x5C || between 0x3800 0x483F u)

-- "Valid: not empty, no leading 0x4840 if plain, at most 31 encoded units", and every unit allowed
abbrev pub valid : List ℕ → Bool → Bool
valid name table = not (length name =? 0) && (table || not (is_table name)) && length (encoded_name name table) ≤? 31 && every allowed name

-- Which entry a take chooses.
use Rattle.std.specs.Prelude.{◌≡◌, ℕ, ◌+◌, ◌<◌, ◌≤◌, Bool, true, false, not, ◌&&◌, ◌||◌, List, [], ◌∷◌, length, slice_index_or}
use Rattle.common.specs.Choice.{when◌then◌else◌, ◌<?◌, ◌=?◌}
use Rattle.pool_entries.specs.Entries.{Entry, entry, free}

-- "the same bytes"
abbrev pub same_bytes : List ℕ → List ℕ → Bool
same_bytes [] [] = true
same_bytes [] (y ∷ ys) = false
same_bytes (x ∷ xs) [] = false
same_bytes (x ∷ xs) (y ∷ ys) = x =? y && same_bytes xs ys

-- "that has the same bytes and a count below 65,535"
abbrev pub equal : List ℕ → Entry → Bool
equal t e = same_bytes e.text t && e.count <? 65535

-- the place of the first that passes; with none, the place after the last
abbrev pub first_place : (Entry → Bool) → List Entry → ℕ
first_place f [] = 0
first_place f (e ∷ es) = when f e then 0 else first_place f es + 1

-- a text and the entries give a place; that after the last is a new entry's
abbrev pub Chooser : Type 0
Chooser = List ℕ → List Entry → ℕ

-- document 01's choice, the old one: "in entry order, the first entry that is free (count 0) or that has the same bytes and a count below 65,535"
abbrev pub first_free_or_equal : Chooser
first_free_or_equal t es = first_place (λ (e : Entry). free e || equal t e) es

-- "an equal entry with a count from 1 to 65,534"
abbrev pub can_count_up_lem : List ℕ → Entry → Bool
can_count_up_lem t e = not (free e) && equal t e

-- document 02's choice, the default: "look for an equal entry with a count from 1 to 65,534 first, then the first free one, then add"
abbrev pub equal_then_free_lem : Chooser
equal_then_free_lem t es =
    let k = first_place (can_count_up_lem t) es in
    when k <? length es then k else first_place free es

-- a choice that keeps the counts: a free entry, or one with the same bytes and a count below 65,535, or a new one
abbrev pub Legal : Chooser → Type 0
Legal choose =
    (t : List ℕ) (es : List Entry) → (choose t es ≤ length es)
    × (choose t es < length es → (free (slice_index_or es (choose t es) (entry [] 0)) || equal t (slice_index_or es (choose t es) (entry [] 0))) ≡ true)

-- Words of the command language in a text, by their places.
use Rattle.std.specs.Prelude.{◌≡◌, ℤ, pos, ◌-ℤ◌, ℕ, zero, suc, ◌+◌, ◌*◌, ◌-◌, ◌/◌, ◌%◌, Bool, false, not, ◌&&◌, List, [], ◌∷◌, length, take, drop, get_or, min, Option, Some, None}
use Rattle.std.specs.List.{prefix_len}
use Rattle.std.specs.Char.{is_ascii_digit}
use Rattle.common.specs.Choice.{when◌then◌else◌, ◌<?◌, ◌≤?◌, ◌=?◌}
use Rattle.common.specs.Lists.{◌over◌}
use Rattle.commands.specs.declared.words.End.{End}
use Rattle.commands.specs.declared.words.Words.{Words}
use Rattle.commands.specs.declared.words.End.TheVariants.{Kind, Times, Item, Word, Line}

-- a place past the end reads 0
abbrev pub byte_at : List ℕ → ℕ → ℕ
byte_at s i = get_or s i 0

-- what a byte ends at most: 5 a line, 4 a word, 3 an item of a list, 2 what is repeated, 1 a kind
abbrev pub rank_of : ℕ → ℕ
rank_of b = when b =? 10 then 5 else when b =? 32 then 4 else when b =? 44 then 3 else when b =? 42 then 2 else when b =? 58 then 1 else 0

-- how far a reading goes, as such a number
abbrev pub end_number : End → ℕ
end_number Kind = 1
end_number Times = 2
end_number Item = 3
end_number Word = 4
end_number Line = 5

-- what ends there, as such a number, 0 for nothing
abbrev pub rank_in : Option End → ℕ
rank_in None = 0
rank_in (Some upto) = end_number upto

abbrev pub ends_at : ℕ → ℕ → Bool
ends_at upto b = upto ≤? rank_of b

-- how many bytes come before an end
abbrev pub run : ℕ → List ℕ → ℕ
run upto s = prefix_len (λ b. not (ends_at upto b)) s

abbrev pub end_of : List ℕ → ℕ → ℕ → ℕ
end_of s at upto = at + run upto (drop at s)

-- the word at a place
abbrev pub word_at : List ℕ → ℕ → List ℕ
word_at s at = take (run 4 (drop at s)) (drop at s)

abbrev pub after_end : List ℕ → ℕ → ℕ
after_end s end = when end <? length s then end + 1 else end

-- a hexadecimal digit's number, letters small; 0 for any other byte
abbrev pub digit_of : ℕ → ℕ
digit_of b = when (48 ≤? b) && (b ≤? 57) then b - 48 else when (97 ≤? b) && (b ≤? 102) then b - 97 + 10 else 0

abbrev pub pair_at : List ℕ → ℕ → ℕ → ℕ
pair_at s from k = digit_of (byte_at s (from + 2 * k)) * 16 + digit_of (byte_at s (from + 2 * k + 1))

abbrev pub pairs_in : List ℕ → ℕ → ℕ → ℕ
pairs_in s from to = when byte_at s from =? 45 then 0 else when to <? from then 0 else (to - from) / 2

-- n values from the k-th on
unfoldable pub listed : (ℕ → ℕ) → ℕ → ℕ → List ℕ
listed f k zero = []
listed f k (suc n) = f k ∷ listed f (suc k) n

-- the digits at the front, after those that made `sum`
unfoldable pub value_of : ℕ → List ℕ → ℕ
value_of sum [] = sum
value_of sum (b ∷ s) = when is_ascii_digit b then (when 999999999 <? sum then 0 else value_of (sum * 10 + (b - 48)) s) else sum

abbrev pub digits_at : List ℕ → ℕ → ℕ
digits_at s from = value_of 0 (drop from s)

-- how often what ends at a place stands: the number behind a star, or once
abbrev pub times_at_lem : List ℕ → ℕ → ℕ
times_at_lem s end = when byte_at s end =? 42 then digits_at s (after_end s end) else 1

-- 0 where one of the two has more than 32 bits
abbrev pub product : ℕ → ℕ → ℕ
product a b = when 4294967295 <? a then 0 else when 4294967295 <? b then 0 else a * b

-- how many bytes a word has, HEX or HEX*N
abbrev pub bytes_at : List ℕ → ℕ → ℕ
bytes_at s from = product (pairs_in s from (end_of s from 2)) (times_at_lem s (end_of s from 2))

-- the k-th byte of a word whose pairs stand over and over
abbrev pub pair_over : List ℕ → ℕ → ℕ → ℕ → ℕ
pair_over s from once k = pair_at s from (k % once)

-- the bytes of a word, HEX or HEX*N, as many as there is room for
abbrev pub bytes_outcome : List ℕ → ℕ → List ℕ → ℕ × List ℕ
bytes_outcome s from out =
    let end = end_of s from 2 in
    let once = pairs_in s from end in
    let n = min (length out) (product once (times_at_lem s end)) in
    (n, listed (pair_over s from once) 0 n over out)

-- 0 where 32 bits do not hold it
abbrev pub count_at_lem : List ℕ → ℕ → ℕ
count_at_lem s at = when 4294967295 <? digits_at s at then 0 else digits_at s at

-- the same of a signed number
abbrev pub signed_at : List ℕ → ℕ → ℤ
signed_at s at =
    when byte_at s at =? 45 then (when 2147483648 <? count_at_lem s (after_end s at) then pos 0 else pos 0 -ℤ pos (count_at_lem s (after_end s at)))
    else when 2147483647 <? count_at_lem s at then pos 0 else pos (count_at_lem s at)

-- the kind and the number that a cell is handed over as: nNULL, iINT, sREF, tTEXT, bBINARY, and kKIND:NUM
abbrev pub kind_at : List ℕ → ℕ → ℕ
kind_at s at =
    when byte_at s at =? 110 then 0 else when byte_at s at =? 105 then 1 else when byte_at s at =? 115 then 2 else when byte_at s at =? 116 then 2 else when byte_at s at =? 98 then 3
    else count_at_lem s (after_end s at) % 256

abbrev pub cell_number_at : List ℕ → ℕ → ℤ
cell_number_at s at =
    when byte_at s at =? 110 then pos 0 else when byte_at s at =? 105 then signed_at s (after_end s at) else when byte_at s at =? 115 then signed_at s (after_end s at) else when byte_at s at =? 116 then pos 0 else when byte_at s at =? 98 then pos 0
    else signed_at s (after_end s (end_of s at 1))

-- a place of the same text
abbrev pub IsPlace : Words → Words → ℕ → Type 0
IsPlace r w at = (r.text.now ≡ w.text.now) × (r.at ≡ at)

-- whether a word is `-`
abbrev pub is_none : List ℕ → ℕ → Bool
is_none s at = when byte_at s at =? 45 then after_end s at =? end_of s at 4 else false

-- the first item of a list: where it stands, and how often
abbrev pub first_at : List ℕ → ℕ → ℕ
first_at s at = when is_none s at then end_of s at 4 else at

abbrev pub first_times : List ℕ → ℕ → ℕ
first_times s at = when is_none s at then 1 else times_at_lem s (end_of s at 2)

-- the item after one that still stands `left` times
abbrev pub next_at : List ℕ → ℕ → ℕ → ℕ
next_at s at left = when 1 <? left then at else after_end s (end_of s at 3)

abbrev pub next_times : List ℕ → ℕ → ℕ → ℕ
next_times s at left = when 1 <? left then left - 1 else times_at_lem s (end_of s (after_end s (end_of s at 3)) 2)

-- at most how many items a list has from an item on, which still stands `left` times, up to `end`
abbrev pub items_left : List ℕ → ℕ → ℕ → ℕ → ℕ
items_left s at left end = when at <? min end (length s) then (min end (length s) - at) * 10000000000 + left else 0

-- more than 64 items that are all the same
abbrev pub is_long_lem : ℕ → Bool → Bool
is_long_lem items same = when same then 64 <? items else false

-- One text put in the place of another in a room, and bytes copied into an output: for the crate above; what a take, a drop, a load and a
-- write leave is said in stringpool/specs.
use Rattle.std.specs.Prelude.{ℕ, ◌+◌, ◌-◌, max, ◌||◌, List, ◌++◌, length, take, drop, replicate}
use Rattle.common.specs.Choice.{when◌then◌else◌, ◌<?◌}
use Rattle.common.specs.Sizes.{max_bytes}
use Rattle.common.specs.Answers.{Answer, gives, refused, nowhere, on_given, outcome, written_to}
use Rattle.order.specs.Order.{text_fits}

-- `old` bytes at `start` go and `new` comes, where `used` bytes are in use: later bytes move,
-- bytes given up at the end of the used part become 0, and bytes past it stay.
unfoldable pub splice : List ℕ → ℕ → ℕ → ℕ → List ℕ → List ℕ
splice ts start old used new =
    take start ts ++ new ++ take (used - (start + old)) (drop (start + old) ts)
    ++ replicate (old - length new) 0 ++ drop (max used (used - old + length new)) ts

-- 22 for the room and for the new text; 24 where the old bytes are not in use, or those in use are not in the room; then 6
abbrev pub replace_fits_lem : ℕ → ℕ → ℕ → ℕ → ℕ → Answer (Unit {0})
replace_fits_lem room start old used size =
    when max_bytes <? room || max_bytes <? size then refused 22 nowhere
    else when room <? used || used <? start + old then refused 24 nowhere
    else text_fits (used - old + size) room

abbrev pub replace_outcome : List ℕ → ℕ → ℕ → ℕ → List ℕ → Answer (Unit {0}) × List ℕ
replace_outcome ts start old used new =
    outcome ts (on_given (replace_fits_lem (length ts) start old used (length new)) (λ _. gives (tt, splice ts start old used new)))

-- 22 for the bytes, then 7
abbrev pub copy_answer : List ℕ → List ℕ → Answer (ℕ × List ℕ)
copy_answer bytes out = when max_bytes <? length bytes then refused 22 nowhere else written_to out bytes

abbrev pub copy_outcome : List ℕ → List ℕ → Answer ℕ × List ℕ
copy_outcome bytes out = outcome out (copy_answer bytes out)

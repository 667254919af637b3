-- What a drop answers and what it leaves.
use Rattle.std.specs.Prelude.{ℕ, ◌-◌, [], length, get_or, set, ℤ}
use Rattle.common.specs.Choice.{when◌then◌else◌, ◌≤?◌}
use Rattle.common.specs.Answers.{Answer, gives, on_given, outcome}
use Rattle.order.specs.Order.{drop_fits_lem}
use Rattle.stringpool.specs.Pool.{Entry, entry, Rooms, entries_of, put_back, on_sound}
use Rattle.stringpool.specs.Refs.{on_reference}
use Rattle.stringpool.specs.declared.pool.StringPool.{StringPool}

-- "count down; at 0 the text goes"; of a count of 0 there is no drop (10)
abbrev pub lessened : Entry → Entry
lessened e = when e.count ≤? 1 then entry [] 0 else entry e.text (e.count - 1)

-- "Drop: 8, 9, 10"
abbrev pub drop_at_lem : StringPool → Rooms → ℕ → Answer (StringPool × Rooms)
drop_at_lem p w k =
    let es = entries_of p w in
    let e = get_or es k (entry [] 0) in
    on_given (drop_fits_lem (length es) k e.count) (λ _. gives (p, put_back p w (set es k (lessened e))))

abbrev pub drop_answer : StringPool → Rooms → ℤ → Answer (StringPool × Rooms)
drop_answer p w r = on_sound p w (on_reference r (drop_at_lem p w))

abbrev pub drop_outcome : StringPool → Rooms → ℤ → Answer StringPool × Rooms
drop_outcome p w r = outcome w (drop_answer p w r)

-- What showing a reference answers, and its count.
use Rattle.std.specs.Prelude.{ℕ, List, [], get_or, ℤ}
use Rattle.common.specs.Answers.{Answer, gives, refused}
use Rattle.stringpool.specs.Pool.{entry, Rooms, entries_of, on_sound}
use Rattle.stringpool.specs.Refs.{on_reference}
use Rattle.stringpool.specs.declared.pool.StringPool.{StringPool}

-- "8, else the entry's bytes as a part of the lent text room; past the last entry, the empty part"
abbrev pub show_answer : StringPool → Rooms → ℤ → Answer (List ℕ)
show_answer p w r = on_sound p w (on_reference r (λ k. gives (get_or (entries_of p w) k (entry [] 0)).text))

-- "Its count likewise, 0 past the end."
abbrev pub refcount_answer : StringPool → Rooms → ℤ → Answer ℕ
refcount_answer p w r = on_sound p w (on_reference r (λ k. gives (get_or (entries_of p w) k (entry [] 0)).count))

-- "A refused show hands out the empty part; a call of its own answers the refusal number or none."
abbrev pub or_empty : Answer (List ℕ) → List ℕ
or_empty (gives t) = t
or_empty (refused n at) = []

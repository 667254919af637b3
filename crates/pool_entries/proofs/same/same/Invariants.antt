use Rattle.std.proofs.Common.{◌≡◌, ◌*◌, drop}
use Rattle.pool_entries.specs.Choose.{same_bytes}
use Rattle.pool_entries.proofs.same.same.Given as goal

abbrev pub invariant-loop-turn : goal.invariant-loop-turn
invariant-loop-turn l = same_bytes l.a l.b ≡ same_bytes (drop (16 * l.turn) l.a) (drop (16 * l.turn) l.b)

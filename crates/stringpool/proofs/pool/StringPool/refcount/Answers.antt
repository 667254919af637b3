use mathlib.Core.Path.{ap, ◌∙◌}
use Prim.Native.Nat.{ℕ}
use lib.ListN.{get_or}
use mir.Syntax.{w32}
use mir.ValLaws.{to_z-of_z}
use Rattle.common.specs.Answers.{gives}
use Rattle.stringpool.specs.Pool.{rooms_of, entries_of}
use Rattle.stringpool.specs.inner.Entries.{none}
use Rattle.stringpool.proofs.Entries.{count_same}
use Rattle.stringpool.proofs.Judging.{judged, on_place}
use Rattle.std.proofs.Common.{rules}
use Rattle.stringpool.proofs.pool.StringPool.refcount.Goals as goal

pub returns : goal.returns
returns c =
    ap gives (c.count_of.ensures ∙ count_same c.args.self.num_strings (rooms_of c.args.rooms) (judged c.args.self (rooms_of c.args.rooms) c.in_ok-judge.ensures).fit c.in_ok-place.place.0)
    ∙ on_place c.args.self (rooms_of c.args.rooms) c.in_ok-judge.ensures c.args.number (to_z-of_z w32 c.args.number (search rules)) c.in_ok-place.ensures
    (λ (k : ℕ). gives (get_or (entries_of c.args.self (rooms_of c.args.rooms)) k none).count)

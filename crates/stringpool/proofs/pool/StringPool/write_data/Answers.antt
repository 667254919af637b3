use mathlib.Core.Path.{sym, ap, ◌∙◌}
use native.Mathlib.Omega.{arith}
use mathlib.Core.List.{List}
use Prim.Native.Nat.{ℕ}
use lib.ListN.{take, length-take}
use Rattle.common.specs.Answers.{outcome, written_to}
use Rattle.stringpool.specs.Pool.{rooms_of}
use Rattle.stringpool.specs.Write.{data_bytes}
use Rattle.text_room.proofs.Splice.{copy_small}
use Rattle.stringpool.proofs.Judging.{judged, on_judged}
use Rattle.stringpool.proofs.Streams.{data_same}
use Rattle.stringpool.proofs.pool.StringPool.write_data.Goals as goal

pub slice_bounds-copy_in-end : goal.slice_bounds-copy_in-end
slice_bounds-copy_in-end c =
    let j = judged c.args.self (rooms_of c.args.rooms) c.in_ok-used.ensures in
    omega (arith, j.sum, j.fit.text, length-take c.in_ok-used.used c.args.rooms.text.now)

pub returns : goal.returns
returns c =
    let j = judged c.args.self (rooms_of c.args.rooms) c.in_ok-used.ensures in
    c.copy_in.ensures
    ∙ sym (copy_small (take c.in_ok-used.used c.args.rooms.text.now) c.args.out.now (omega (arith, j.large, length-take c.in_ok-used.used c.args.rooms.text.now)))
    ∙ ap (λ (x : List ℕ). outcome c.args.out.now (written_to c.args.out.now x)) (data_same c.args.self (rooms_of c.args.rooms) j.fit j.sum)
    ∙ ap (outcome c.args.out.now) (on_judged c.args.self (rooms_of c.args.rooms) c.in_ok-used.ensures (written_to c.args.out.now (data_bytes c.args.self (rooms_of c.args.rooms))))

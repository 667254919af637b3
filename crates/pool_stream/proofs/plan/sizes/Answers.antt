use mathlib.Core.Path.{◌≡◌, sym, ap, ◌∙◌}
use Prim.Native.Nat.{ℕ}
use native.Mathlib.Omega.{arith}
use lib.ListN.{length, drop, length-drop}
use native.Mathlib.Nat.{sub-zero}
use Rattle.common.proofs.Parts.{tail_part}
use Rattle.pool_stream.specs.Entries.{entry_in, entries_in}
use Rattle.pool_stream.specs.inner.Found.{found_as}
use Rattle.pool_stream.specs.Plan.{sizes_of}
use Rattle.pool_stream.proofs.Reading.{found_size, more, more_none, size-end, size-cut, size-one}
use Rattle.pool_stream.proofs.plan.sizes.Goals as goal

pub loop-length-init : goal.loop-length-init
loop-length-init c = (omega arith, omega arith, omega arith, more_none _ ∙ ap (λ (f : ℕ). more 0 0 (sizes_of (entries_in f (drop 4 c.args.s.now)))) (sym (sub-zero (length c.args.s.now))))

pub returns-in-End : goal.returns-in-End
returns-in-End c = size-end c.args.s.now c.loop-length.n c.loop-length.sum c.loop-length.at (omega arith) c.loop-length.invariant.3 _ (ap entry_in (sym (tail_part c.loop-length.at c.args.s.now)) ∙ sym c.first_entry-entry.ensures ∙ ap found_as c.in-End.is)

pub returns-in-Cut : goal.returns-in-Cut
returns-in-Cut c = size-cut c.args.s.now c.loop-length.n c.loop-length.sum c.loop-length.at (omega arith) c.loop-length.invariant.3 (ap entry_in (sym (tail_part c.loop-length.at c.args.s.now)) ∙ sym c.first_entry-entry.ensures ∙ ap found_as c.in-Cut.is)

pub loop-length-preserved : goal.loop-length-preserved
loop-length-preserved c =
    let found : entry_in (drop c.loop-length.at c.args.s.now) ≡ found_as c.first_entry-entry.result = ap entry_in (sym (tail_part c.loop-length.at c.args.s.now)) ∙ sym c.first_entry-entry.ensures in
    let e = found ∙ ap found_as c.in-One.is in
    let a = found_size (drop c.loop-length.at c.args.s.now) _ _ _ _ e in (
      omega (arith, a, length-drop c.loop-length.at c.args.s.now),
      omega (arith, a, length-drop c.loop-length.at c.args.s.now),
      omega arith,
      size-one c.args.s.now c.loop-length.n c.loop-length.sum c.loop-length.at (omega arith) c.loop-length.invariant.3 _ _ _ _ e,
    )

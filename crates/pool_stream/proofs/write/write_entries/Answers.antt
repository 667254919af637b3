use Rattle.std.proofs.Common.{rules, ◌≡◌, subst, sym, ap₂, inl, inr}
use mathlib.Core.List.{List}
use Prim.Native.Nat.{ℕ}
use Rattle.pool_stream.specs.inner.Write.{entries_bytes}
use Rattle.pool_stream.proofs.Writing.{Through, through-none, through-room, through-next, through-all, none-left, none-counted}
use Rattle.pool_stream.proofs.write.write_entries.Goals as goal

pub loop-size-init : goal.loop-size-init
loop-size-init c =
    let i = c.into_iter-size-iterator.result in
    let a : i.a.rest.now ≡ c.args.lengths.now = search rules in
    let b : i.b.rest.now ≡ c.args.counts.now = search rules in
    let all : List ℕ = entries_bytes c.args.lengths.now c.args.counts.now in
    subst (λ (r : List ℕ). Through all r c.args.out.now c.args.out.now 4) (sym (ap₂ entries_bytes a b)) (through-none all c.args.out.now)

pub write_entry-at-requires : goal.write_entry-at-requires
write_entry-at-requires c =
    let steps = c.in-Some.ensures.steps in
    through-room c.loop-size.invariant c.requires _ _ (ap₂ entries_bytes steps.0 steps.1)

pub loop-size-preserved : goal.loop-size-preserved
loop-size-preserved c =
    let steps = c.in-Some.ensures.steps in
    through-next c.loop-size.invariant c.requires _ _ (ap₂ entries_bytes steps.0 steps.1) c.write_entry-at.ensures.0 c.write_entry-at.ensures.1

pub returns : goal.returns
returns c =
    let i = c.loop-size.size-iterator in
    through-all c.loop-size.invariant (elim c.in-None.ensures.steps [ inl w ↦ none-left i.a.rest.now i.b.rest.now w.1.0 | inr w ↦ none-counted i.a.rest.now i.b.rest.now w.1.0 ])

use mathlib.Core.Path.{◌≡◌, sym, ap, ◌∙◌}
use Prim.Native.Nat.{ℕ, ◌+◌, ◌≤◌}
use native.Mathlib.Omega.{arith}
use mathlib.Core.List.{List}
use lib.ListN.{length}
use Rattle.common.specs.Lists.{over_at}
use Rattle.common.proofs.Parts.{length-over_at}
use Rattle.little_endian.specs.Numbers.{bytes_of}
use Rattle.pool_stream.specs.Entries.{short_of}
use Rattle.pool_stream.proofs.Writing.{length-narrow, length-wide}
use Rattle.pool_stream.proofs.Writing.{wrote, wrote_narrow, wrote_wide}
use Rattle.pool_stream.proofs.write.write_entry.Goals as goal

pub returns-then-wide : goal.returns-then-wide
returns-then-wide c =
    let o : List ℕ = c.args.out.now in
    let at : ℕ = c.args.at in
    let n : ℕ = c.args.size in
    let k : ℕ = c.args.count in
    let w = sym c.wide.ensures ∙ c.if-wide.true in
    let room : at + 8 ≤ length o = omega (arith, length-wide n k w, c.requires) in
    let o₁ : List ℕ = c.write.new.out in
    let e₁ : o₁ ≡ over_at at (bytes_of 2 (short_of n)) o = wrote c.short_of.result 2 o at (omega arith) c.write.ensures ∙ ap (λ (x : ℕ). over_at at (bytes_of 2 x) o) c.short_of.ensures in
    let l₁ : length o₁ ≡ length o = ap length e₁ ∙ length-over_at at (bytes_of 2 (short_of n)) o (omega arith) in
    let o₂ : List ℕ = c.write-2.new.out in
    let e₂ : o₂ ≡ over_at (at + 2) (bytes_of 2 k) o₁ = wrote k 2 o₁ (at + 2) (omega arith) c.write-2.ensures in
    let l₂ : length o₂ ≡ length o = ap length e₂ ∙ length-over_at (at + 2) (bytes_of 2 k) o₁ (omega arith) ∙ l₁ in
    (sym (length-wide n k w), wrote_wide n k at o o₁ o₂ (omega arith) e₁ e₂ w _ (wrote n 4 o₂ (at + 4) (omega arith) c.write-then-wide.ensures))

pub returns : goal.returns
returns c =
    let o : List ℕ = c.args.out.now in
    let at : ℕ = c.args.at in
    let n : ℕ = c.args.size in
    let k : ℕ = c.args.count in
    let w = sym c.wide.ensures ∙ c.if-wide.false in
    let room : at + 4 ≤ length o = omega (arith, length-narrow n k w, c.requires) in
    let o₁ : List ℕ = c.write.new.out in
    let e₁ : o₁ ≡ over_at at (bytes_of 2 (short_of n)) o = wrote c.short_of.result 2 o at (omega arith) c.write.ensures ∙ ap (λ (x : ℕ). over_at at (bytes_of 2 x) o) c.short_of.ensures in
    let l₁ : length o₁ ≡ length o = ap length e₁ ∙ length-over_at at (bytes_of 2 (short_of n)) o (omega arith) in
    (sym (length-narrow n k w), wrote_narrow n k at o o₁ _ (omega arith) e₁ (wrote k 2 o₁ (at + 2) (omega arith) c.write-2.ensures) w)

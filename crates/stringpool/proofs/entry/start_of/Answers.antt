use mathlib.Core.Path.{◌≡◌, ◌∙◌}
use Prim.Native.Nat.{ℕ, ◌+◌, ◌<◌}
use native.Mathlib.Omega.{arith}
use mathlib.Core.List.{List, [], ◌∷◌}
use lib.ListN.{take}
use Rattle.std.specs.Prelude.{sum, fold}
use Rattle.std.proofs.Common.{rules}
use Rattle.common.specs.Lists.{total}
use Rattle.stringpool.proofs.entry.start_of.Goals as goal

fold_total : (n : ℕ) (ls : List ℕ) → fold (λ a x. a + x) n ls ≡ n + total ls
fold_total n [] = omega arith
fold_total n (x ∷ ls) = fold_total (n + x) ls ∙ omega arith

total_sum : (ls : List ℕ) → sum ls ≡ total ls
total_sum ls = fold_total 0 ls ∙ omega arith

pub sum-requires-clause-fits : goal.sum-requires-clause-fits
sum-requires-clause-fits c =
    let few : sum (take c.args.k c.args.lengths.now) < 18446744073709551616 = omega (arith, c.requires, total_sum (take c.args.k c.args.lengths.now)) in
    search rules

pub returns : goal.returns
returns c =
    let e : c.sum.result ≡ sum (take c.args.k c.args.lengths.now) = search rules in
    e ∙ total_sum (take c.args.k c.args.lengths.now)

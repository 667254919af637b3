use Rattle.commands.specs.Words.{pair_over, listed}
use Rattle.common.proofs.Writing.{Writing}
use Rattle.std.proofs.Common.{◌-◌}
use Rattle.commands.proofs.words.Words.bytes_in.Given as goal

abbrev pub invariant-loop-k : goal.invariant-loop-k
invariant-loop-k l = Writing l.initial.out 0 (listed (pair_over l.self.text.now l.self.at l.once) 0 l.n) (listed (pair_over l.self.text.now l.self.at l.once) l.k (l.n - l.k)) l.out l.k

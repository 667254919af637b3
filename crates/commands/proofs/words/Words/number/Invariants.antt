use Rattle.std.proofs.Common.{◌≡◌, ◌≤◌, drop}
use Rattle.commands.specs.Words.{value_of}
use Rattle.commands.proofs.words.Words.number.Given as goal

abbrev pub invariant-loop-b : goal.invariant-loop-b
invariant-loop-b l = record { value : value_of 0 l.rest ≡ value_of l.sum (drop l.b-index l.rest); bound : l.sum ≤ 9999999999 }

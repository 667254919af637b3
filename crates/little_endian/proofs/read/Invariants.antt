use Rattle.std.proofs.Common.{◌≡◌, ◌+◌, ◌-◌, ◌≤◌}
use Rattle.std.specs.Prelude.{min}
use Rattle.little_endian.specs.Numbers.{number_at}
use Rattle.little_endian.proofs.read.Given as goal

abbrev pub invariant-loop-i : goal.invariant-loop-i
invariant-loop-i l = (l.i ≤ min l.width 4) × (l.value ≡ number_at (min l.width 4 - l.i) l.bytes (l.at + l.i))

use Rattle.std.proofs.Common.{◌≡◌, ℕ, ◌<◌}
use Rattle.host.specs.Frames.{bit_table}
use Rattle.audit.proofs.load.Given as goal

abbrev pub invariant-loop-j : goal.invariant-loop-j
invariant-loop-j g l = (i k : ℕ) → i < l.n → k < l.j → bit_table l.n l.table i k ≡ g.K.Key.checks l.key i k

use Rattle.std.proofs.Common.{ℕ, ◌<◌}
use Rattle.audit.specs.Verdicts.{Padless}
use Rattle.audit.proofs.dirty_row.Given as goal

abbrev pub invariant-loop-i : goal.invariant-loop-i
invariant-loop-i l = (a : ℕ) → a < l.i → Padless l.k l.published a

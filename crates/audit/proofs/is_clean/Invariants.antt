use Rattle.std.proofs.Common.{◌≡◌, ℕ, ◌<◌, ◌≤◌}
use Rattle.sink.specs.Store.{key_matrix}
use Rattle.audit.proofs.is_clean.Given as goal

abbrev pub invariant-loop-j : goal.invariant-loop-j
invariant-loop-j l = (a : ℕ) → l.k ≤ a → a < l.j → key_matrix l.k l.published l.i a ≡ 0

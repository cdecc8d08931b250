use Rattle.std.proofs.Common.{◌≡◌, ℕ, ◌<◌}
use Rattle.bits.specs.Bits.{bits_of}
use Rattle.sink.specs.Store.{key_matrix}
use Rattle.audit.proofs.wrong_row.Given as goal

abbrev pub invariant-loop-i : goal.invariant-loop-i
invariant-loop-i l = (a : ℕ) → a < l.i → key_matrix l.k l.published a l.c ≡ bits_of l.own a

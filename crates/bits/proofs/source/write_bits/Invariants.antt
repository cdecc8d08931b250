use Rattle.std.proofs.Common.{◌≡◌, ℕ, ◌<◌, get_or}
use Rattle.bits.specs.Bits.{byte_at}
use Rattle.bits.proofs.source.write_bits.Given as goal

abbrev pub invariant-loop-j : goal.invariant-loop-j
invariant-loop-j g l = (k : ℕ) → k < l.j → get_or l.out k 0 ≡ byte_at l.n (g.B.BitSource.vector l.b) k

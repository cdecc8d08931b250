use Rattle.std.proofs.Common.{◌≡◌, ◌+◌, ◌-◌, ◌*◌}
use Rattle.bits.specs.Bits.{low, pad_bit}
use Rattle.bits.proofs.source.byte_at.Given as goal

abbrev pub invariant-loop-k : goal.invariant-loop-k
invariant-loop-k g l = l.byte ≡ low (8 - l.k) (λ i. pad_bit l.n (g.B.BitSource.vector l.b) (8 * l.j + l.k + i))

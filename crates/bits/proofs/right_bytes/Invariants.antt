use Rattle.std.proofs.Common.{◌≡◌, ℕ, ◌*◌, ◌<◌}
use Rattle.matrix.specs.Matrix.{delta}
use Rattle.bits.specs.Bits.{bits_of}
use Rattle.bits.proofs.right_bytes.Given as goal

abbrev pub invariant-loop-j : goal.invariant-loop-j
invariant-loop-j l = (k : ℕ) → k < 8 * l.j → bits_of l.v k ≡ delta l.i k

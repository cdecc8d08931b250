-- Sums of no term, and of one more. Assumes nothing.
use Rattle.std.proofs.Common.{◌≡◌, ℕ, ◌+◌, refl, ap, add-one}
use lib.Bits.{bit_xor}
use Rattle.matrix.specs.Matrix.{sum}

pub sum-none : (f : ℕ → ℕ) → 0 ≡ sum 0 f
unfolding sum
sum-none f = refl

pub sum-more : (n : ℕ) (f : ℕ → ℕ) → sum (n + 1) f ≡ bit_xor (sum n f) (f n)
unfolding sum
sum-more n f = ap (λ k. sum k f) (add-one n)

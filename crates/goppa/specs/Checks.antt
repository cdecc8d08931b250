-- The Goppa polynomial and the private check matrix, over the field of 2^m elements modulo f.
-- Assumes nothing.
use Rattle.std.specs.Prelude.{ℕ, zero, suc, ◌/◌, ◌%◌, ◌^◌, bit_xor}
use Rattle.galois.specs.Gf.{times, inverse_of}
use Rattle.matrix.specs.Matrix.{Mat, sum}

-- x to the power i; 1 at i = 0, for x = 0 too
unfoldable pub power : (m f x i : ℕ) → ℕ
power m f x zero = 1
power m f x (suc i) = times m f x (power m f x i)

-- g(x) = x^t + g_(t-1) x^(t-1) + .. + g_0
unfoldable pub value : (m f t : ℕ) → (ℕ → ℕ) → ℕ → ℕ
value m f t g x = bit_xor (power m f x t) (sum t (λ i. times m f (g i) (power m f x i)))

-- x^i / g(x)
unfoldable pub ratio : (m f t : ℕ) → (ℕ → ℕ) → ℕ → ℕ → ℕ
ratio m f t g x i = times m f (power m f x i) (inverse_of m f (value m f t g x))

-- the private check matrix of g on the support a: row i m + b of column j is bit b of a_j^i / g(a_j)
unfoldable pub checks : (m f t : ℕ) → (ℕ → ℕ) → (ℕ → ℕ) → Mat
checks m f t g a r j = ratio m f t g (a j) (r / m) / 2 ^ (r % m) % 2

-- Columns and rows of the check matrix by words: numbers of m bits each. What private functions promise; no public
-- contract cites it. Assumes nothing.
use Rattle.std.specs.Prelude.{ℕ, zero, suc, ◌+◌, ◌*◌, ◌/◌, ◌%◌, List, bit_and, slice_index}
use Rattle.galois.specs.Gf.{times}
use Rattle.matrix.specs.Matrix.{sum}
use Rattle.bits.specs.Bits.{bit_of, bits_of, low}

-- x^i y
unfoldable pub scaled : (m f x y i : ℕ) → ℕ
scaled m f x y zero = y
scaled m f x y (suc i) = times m f x (scaled m f x y i)

-- bit r of the words, m bits of each, one word after another
abbrev pub stacked : ℕ → List ℕ → ℕ → ℕ
stacked m words r = bit_of (slice_index words (r / m)) (r % m)

-- word i of the vector v, m bits in each
abbrev pub word_of : ℕ → List ℕ → ℕ → ℕ
word_of m v i = low m (λ b. bits_of v (i * m + b))

-- the sum of the bits of a word
unfoldable pub parity_of : ℕ → ℕ
parity_of x = sum 16 (bit_of x)

-- the sum, for i below t, of the bits that word i has in common with x^i y
unfoldable pub crossed : (m f t : ℕ) → List ℕ → (x y : ℕ) → ℕ
crossed m f t words x y = sum t (λ i. bit_and (slice_index words i) (scaled m f x y i))

-- Bit vectors as functions of the index, and how a vector fills bytes; unit_byte is for private functions. Assumes nothing.
use Rattle.std.specs.Prelude.{ℕ, zero, suc, ◌+◌, ◌*◌, ◌/◌, ◌%◌, ◌^◌, cond, List, map, nat_lt, ◌==◌, slice_index}
use Rattle.std.specs.List.{range_with_len}
use Rattle.matrix.specs.Matrix.{Mat}

-- bytes that n bits fill
abbrev pub bytes_for : ℕ → ℕ
bytes_for n = (n + 7) / 8

-- bit k of a byte, lowest first
unfoldable pub bit_of : ℕ → ℕ → ℕ
bit_of b k = b / 2 ^ k % 2

-- bit i of a byte string; 0 past its end
unfoldable pub bits_of : List ℕ → ℕ → ℕ
bits_of xs i = bit_of (slice_index xs (i / 8)) (i % 8)

-- bit k of a byte string from byte `at` on; 0 past its end
unfoldable pub bits_from : ℕ → List ℕ → ℕ → ℕ
bits_from at xs k = bit_of (slice_index xs (at + k / 8)) (k % 8)

-- the matrix whose rows stand one after another in w bytes each; 0 past the end
unfoldable pub of_rows : ℕ → List ℕ → Mat
of_rows w xs i j = bit_of (slice_index xs (i * w + j / 8)) (j % 8)

-- the number with the digits g 0, .., g (m - 1), lowest first
abbrev pub low : ℕ → (ℕ → ℕ) → ℕ
low zero g = 0
low (suc m) g = g 0 + 2 * low m (λ i. g (suc i))

-- bit i of the vector f of n bits, 0 past its end
abbrev pub pad_bit : ℕ → (ℕ → ℕ) → ℕ → ℕ
pad_bit n f i = cond (nat_lt i n) (f i % 2) 0

-- byte j of the vector f of n bits; pad bits are 0
unfoldable pub byte_at : ℕ → (ℕ → ℕ) → ℕ → ℕ
byte_at n f j = low 8 (λ b. pad_bit n f (8 * j + b))

-- the bytes of the vector f of n bits
unfoldable pub pack : ℕ → (ℕ → ℕ) → List ℕ
pack n f = map (byte_at n f) (range_with_len 0 (bytes_for n))

-- byte j of the unit row i
abbrev pub unit_byte : ℕ → ℕ → ℕ
unit_byte i j = cond (i / 8 == j) (2 ^ (i % 8)) 0

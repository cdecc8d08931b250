-- Matrices as lists of packed columns and as packed rows. Assumes nothing.
use Rattle.std.specs.Prelude.{ℕ, ◌*◌, ◌/◌, ◌%◌, List, [], map, slice_index_or}
use Rattle.std.specs.List.{range_with_len}
use Rattle.matrix.specs.Matrix.{Mat}
use Rattle.bits.specs.Bits.{bytes_for, bits_of, byte_at, pack}

-- the first k columns of the matrix e, packed, n rows each
unfoldable pub columns_of : ℕ → ℕ → Mat → List (List ℕ)
columns_of n k e = map (λ j. pack n (λ i. e i j)) (range_with_len 0 k)

-- entry i of column j of a list of packed columns
abbrev pub entry_of : List (List ℕ) → Mat
entry_of cs i j = bits_of (slice_index_or cs j []) i

-- the n rows of the matrix e, packed l bits each, one after another
unfoldable pub packed_rows : ℕ → ℕ → Mat → List ℕ
packed_rows n l e = map (λ p. byte_at l (e (p / bytes_for l)) (p % bytes_for l)) (range_with_len 0 (n * bytes_for l))

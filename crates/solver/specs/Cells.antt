-- What the cells of a table mean: w is the width of the field, number the number in a cell. Assumes nothing.
use Rattle.std.specs.Prelude.{ℕ, ◌+◌, ◌*◌, ◌%◌, ◌^◌, ◌<◌, List, map, length, slice_index, slice_index_or}
use Rattle.matrix.specs.Matrix.{Mat}

-- the largest size of a table that can be solved
abbrev pub largest : ℕ
largest = 1664

-- the element that a cell means: the low bits of its number
abbrev pub element : {X : Type 0} → ℕ → (X → ℕ) → X → ℕ
element w number x = number x % 2 ^ w

-- entry j of a row of cells
unfoldable pub entry : {X : Type 0} → ℕ → (X → ℕ) → List X → ℕ → ℕ
entry w number xs j = slice_index (map (element w number) xs) j

-- the matrix of n columns that the cells hold, row after row
unfoldable pub entries : {X : Type 0} → ℕ → (X → ℕ) → ℕ → List X → Mat
entries w number n xs i j = slice_index (map (element w number) xs) (i * n + j)

-- no cell has bits above its element
abbrev pub Clean : {X : Type 0} → ℕ → (X → ℕ) → List X → Type 0
Clean {X} w number xs = (k : ℕ) (d : X) → k < length xs → number (slice_index_or xs k d) < 2 ^ w

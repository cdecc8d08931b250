-- What a host writes, and the replies that it awaits. Assumes nothing.
-- bit_table                        the matrix of bits in a table
-- column_frame, status_frame, ..   the frames
-- is_column, next_row, is_status   the replies that are awaited
-- with_cells                       a table with another column
use Rattle.std.specs.Prelude.{ℕ, zero, suc, ◌+◌, ◌*◌, ◌/◌, ◌%◌, Bool, ◌&&◌, List, [], ◌∷◌, length, ◌==◌, nat_lt, slice_index, slice_set}
use Rattle.matrix.specs.Matrix.{Mat}
use Rattle.bits.specs.Bits.{bytes_for, pack}
use Rattle.bits.specs.Bytes.{word_at}
use Rattle.solver.specs.Cells.{entries}
use Rattle.host.specs.declared.stage.Stage.{Stage}
use Rattle.host.specs.declared.stage.Stage.TheVariants.{Columns, Full, Status, Rows, Combination, Done}

-- the matrix of n columns in a table of bits, one cell to each bit
abbrev pub bit_table : ℕ → List ℕ → Mat
bit_table n xs = entries 1 (λ x. x) n xs

-- 11: the index
abbrev pub column_frame : ℕ → List ℕ
column_frame j = 17 ∷ j % 256 ∷ j / 256 ∷ []

-- 14
abbrev pub status_frame : List ℕ
status_frame = 20 ∷ []

-- 12: the index, and the row s of n bits
abbrev pub row_frame : ℕ → ℕ → (ℕ → ℕ) → List ℕ
row_frame n i s = 18 ∷ i % 256 ∷ i / 256 ∷ pack n s

-- 13: the combination v of n bits
abbrev pub combination_frame : ℕ → (ℕ → ℕ) → List ℕ
combination_frame n v = 19 ∷ pack n v

-- the frame of a stage, with the second table ys
abbrev pub frame_of : ℕ → Stage → List ℕ → List ℕ
frame_of n (Columns j) ys = column_frame j
frame_of n Full ys = status_frame
frame_of n (Status s) ys = status_frame
frame_of n (Rows i) ys = row_frame n i (bit_table n ys i)
frame_of n (Combination r) ys = combination_frame n (bit_table n ys r)
frame_of n Done ys = []

-- 21, the index asked, and a column of n bits
abbrev pub is_column : ℕ → ℕ → List ℕ → Bool
is_column n j r = length r == bytes_for n + 3 && (slice_index r 0 == 33 && word_at 1 r == j)

-- the next row in the reply to the status
abbrev pub next_row : List ℕ → ℕ
next_row = word_at 2

-- 24, phase 0, and a next row below n
abbrev pub is_status : ℕ → List ℕ → Bool
is_status n r = length r == 4 && (slice_index r 0 == 36 && (slice_index r 1 == 0 && nat_lt (next_row r) n))

-- the cells of a table of n columns, with the first k bits of v in column j
unfoldable pub with_cells : ℕ → ℕ → ℕ → (ℕ → ℕ) → List ℕ → List ℕ
with_cells n j zero v xs = xs
with_cells n j (suc k) v xs = slice_set (with_cells n j k v xs) (k * n + j) (v k)

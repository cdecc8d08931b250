-- What the parts of a check give: the inverse block and the key's columns. What private steps promise; no public
-- contract cites it. Assumes nothing.
use Rattle.std.specs.Prelude.{ℕ, ◌*◌, ◌/◌, ◌%◌, cond, List, nat_lt}
use Rattle.galois.specs.Bit.{bits}
use Rattle.matrix.specs.Matrix.{Mat, times}
use Rattle.matrix.specs.Words.{from_column, LeftInverse, Singular}
use Rattle.bits.specs.Bits.{bytes_for, of_rows}
use Rattle.solver.specs.declared.Solved.{Solved}
use Rattle.solver.specs.declared.Solved.TheVariants.{Inverse, Dependent}
use Rattle.host.specs.Frames.{bit_table}

-- the packed rows xs undo the block H, or nothing does
abbrev pub Inverted : ℕ → Mat → List ℕ → Solved → Type 0
Inverted n H xs Inverse = LeftInverse bits n H (of_rows (bytes_for n) xs)
Inverted n H xs (Dependent r) = Singular bits n H

-- bit p of the rows of an n by n table, each in whole bytes
abbrev pub padded_bit : ℕ → List ℕ → ℕ → ℕ
padded_bit n ys p = cond (nat_lt (p % (8 * bytes_for n)) n) (bit_table n ys (p / (8 * bytes_for n)) (p % (8 * bytes_for n))) 0

-- the public matrix, by packed rows xs that undo the block
abbrev pub product : ℕ → List ℕ → Mat → Mat
product n xs H = times bits n (of_rows (bytes_for n) xs) (from_column n H)

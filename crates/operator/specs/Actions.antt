-- Operators: what their actions answer and write, what they are made of; transposed is for a private operator. Assumes nothing.
use Rattle.std.specs.Prelude.{◌≡◌, ℕ, ◌*◌, ◌<◌, ◌≤◌, true, false, cond, List, length, is_ok, Ok, Err, Result, ◌==◌, nat_le, nat_lt}
use Rattle.std.proofs.Common.{arith}
use Rattle.galois.specs.Bit.{bits}
use Rattle.matrix.specs.Matrix.{Mat, times, apply, apply_row}
use Rattle.bits.specs.Bits.{bytes_for, bits_of, of_rows, pack}
use Rattle.operator.specs.declared.fault.OperatorFault.{OperatorFault}
use Rattle.operator.specs.declared.fault.OperatorFault.TheVariants.{Length}
use Rattle.operator.specs.declared.fault.MakeFault.{MakeFault}
use Rattle.operator.specs.declared.fault.MakeFault.TheVariants.{Size, Memory, Differ}

-- the answer of an action of size n to a vector of v bytes and a result of w bytes
abbrev pub answer : ℕ → ℕ → ℕ → Result (Unit {0}) OperatorFault
answer n v w = cond (v == bytes_for n) (cond (w == bytes_for n) (Ok tt) (Err (Length w))) (Err (Length v))

-- the column action of the n by n matrix m on v: its result r, and what the memory lent for m v then holds
pub record ColumnAction (n : ℕ) (m : Mat) (v before after : List ℕ) (r : Result (Unit {0}) OperatorFault) : Type 0 where
  pub result : r ≡ answer n (length v) (length before)
  pub written : after ≡ cond (is_ok r) (pack n (apply bits n m (bits_of v))) before

-- the row action, for v m
pub record RowAction (n : ℕ) (m : Mat) (v before after : List ℕ) (r : Result (Unit {0}) OperatorFault) : Type 0 where
  pub result : r ≡ answer n (length v) (length before)
  pub written : after ≡ cond (is_ok r) (pack n (apply_row bits n m (bits_of v))) before

-- rows for columns
abbrev pub transposed : Mat → Mat
transposed m i j = m j i

-- the zero matrix
abbrev pub zeros : Mat
zeros i j = 0

-- what a stored matrix of size n over l bytes is refused by
abbrev pub stored_check : ℕ → ℕ → Result (Unit {0}) MakeFault
stored_check n l = cond (nat_lt 0 n) (cond (nat_le n 1664) (cond (l == n * bytes_for n) (Ok tt) (Err (Memory l))) (Err (Size n))) (Err (Size n))

-- the order and the matrix of what is made of the size n and the rows xs: the 1 by 1 zero matrix where they are refused
pub record Stored (n : ℕ) (xs : List ℕ) (order : ℕ) (matrix : Mat) : Type 0 where
  pub size : order ≡ cond (is_ok (stored_check n (length xs))) n 1
  pub entries : matrix ≡ cond (is_ok (stored_check n (length xs))) (of_rows (bytes_for n) xs) zeros

-- what a pair of operators of sizes m and n is refused by
abbrev pub pair_check : ℕ → ℕ → Result (Unit {0}) MakeFault
pair_check m n = cond (m == n) (Ok tt) (Err (Differ n))

-- the order of a pair: 1 where the sizes differ
abbrev pub pair_order : ℕ → ℕ → ℕ
pair_order m n = cond (m == n) m 1

-- the matrix of a pair: the product, and the 1 by 1 zero matrix where the sizes differ
abbrev pub pair_matrix : ℕ → Mat → ℕ → Mat → Mat
pair_matrix m a n b = cond (m == n) (times bits m a b) zeros

-- a pair is as small as its first operator
pub pair_bounded : (m n : ℕ) → (0 < m) × (m ≤ 1664) → (0 < pair_order m n) × (pair_order m n ≤ 1664)
pair_bounded m n h = elim (m == n) as (λ b. (0 < cond b m 1) × (cond b m 1 ≤ 1664)) [ true ↦ h | false ↦ (omega arith, omega arith) ]

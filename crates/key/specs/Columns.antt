-- Columns of a private check matrix: what giving one answers and writes, what its faults tell; and its public matrix. Assumes nothing.
use Rattle.std.specs.Prelude.{◌≡◌, ℕ, ◌+◌, cond, List, length, is_ok, Ok, Err, Result, ◌==◌, nat_lt}
use Rattle.refusal.specs.Refusals.{refused}
use Rattle.refusal.specs.declared.told.Refusal.{Refusal}
use Rattle.refusal.specs.declared.told.Layer.TheVariants.{Operators}
use Rattle.galois.specs.Bit.{bits}
use Rattle.matrix.specs.Matrix.{Mat}
use Rattle.matrix.specs.Words.{Systematic, TheOnly}
use Rattle.bits.specs.Bits.{bytes_for, pack}
use Rattle.key.specs.declared.fault.ColumnFault.{ColumnFault}
use Rattle.key.specs.declared.fault.ColumnFault.TheVariants.{Length, Index}
use Rattle.key.specs.declared.sizes.Sizes.{Sizes}

-- what the faults tell
abbrev pub told_column : ColumnFault → Refusal
told_column (Length l) = refused Operators 8 l
told_column (Index j) = refused Operators 17 j

-- the answer to column j into l bytes
abbrev pub column_answer : Sizes → ℕ → ℕ → Result (Unit {0}) ColumnFault
column_answer s j l = cond (l == bytes_for s.rows) (cond (nat_lt j (s.rows + s.rest)) (Ok tt) (Err (Index j))) (Err (Length l))

-- column j of the check matrix h: its result r, and what the memory lent for it then holds
pub record ColumnGiven (s : Sizes) (h : Mat) (j : ℕ) (before after : List ℕ) (r : Result (Unit {0}) ColumnFault) : Type 0 where
  pub result : r ≡ column_answer s j (length before)
  pub written : after ≡ cond (is_ok r) (pack s.rows (λ i. h i j)) before

-- T is the public matrix of the check matrix H: (I|T) passes exactly the words that H passes, and no other T does
abbrev pub IsPublic : Sizes → Mat → Mat → Type 0
IsPublic s H T = TheOnly s.rows s.rest (Systematic bits s.rows s.rest H) T

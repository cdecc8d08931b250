-- What a host's tables and frames mean for the matrix B of a card. Assumes nothing.
-- Knows               what the tables hold of B
-- UnitRow, Vanishes   what a row and a combination are to B
-- Sends, Speaks       the frame of a stage; speaking
-- RepliedBy           the reply of a card with B
-- Learns              hearing such a reply
use Rattle.std.specs.Prelude.{◌≡◌, ℕ, ◌/◌, ◌%◌, ◌<◌, ◌≢◌, List, [], ◌∷◌, length, Option, Ok, Result}
use Rattle.galois.specs.Bit.{bits}
use Rattle.matrix.specs.Matrix.{Mat, Same, times, delta, apply_row, Dependent}
use Rattle.bits.specs.Bits.{bytes_for, bits_of, pack}
use Rattle.solver.specs.Answers.{Solves}
use Rattle.host.specs.declared.stage.Stage.{Stage}
use Rattle.host.specs.declared.stage.Stage.TheVariants.{Columns, Full, Status, Rows, Combination, Done}
use Rattle.host.specs.declared.fault.HostFault.{HostFault}
use Rattle.host.specs.Frames.{bit_table, column_frame, status_frame}
use Rattle.host.specs.Stages.{after_reply}
use Rattle.host.specs.Steps.{written}

-- the tables xs and ys at a stage: columns of B below j, all of B, then its inverse or a combination
abbrev pub Knows : ℕ → Mat → Stage → List ℕ → List ℕ → Type 0
Knows n B (Columns j) xs ys = (i k : ℕ) → i < n → k < j → bit_table n xs i k ≡ B i k
Knows n B Full xs ys = Same n (bit_table n xs) B
Knows n B (Status s) xs ys = Solves bits n B (bit_table n ys) s
Knows n B (Rows i) xs ys = Same n (times bits n (bit_table n ys) B) delta
Knows n B (Combination r) xs ys = Dependent bits n B (bit_table n ys r)
Knows n B Done xs ys = Unit {0}

-- the packed row s times B is unit row i
abbrev pub UnitRow : ℕ → Mat → ℕ → List ℕ → Type 0
UnitRow n B i s = (j : ℕ) → j < n → apply_row bits n B (bits_of s) j ≡ delta i j

-- the packed row v is not zero, and v times B is
pub record Vanishes (n : ℕ) (B : Mat) (v : List ℕ) : Type 0 where
  pub at : ℕ
  pub at_lt : at < n
  pub nonzero : bits_of v at ≢ 0
  pub zero : (j : ℕ) → j < n → apply_row bits n B (bits_of v) j ≡ 0

-- the frame f of a stage: row i of the inverse of B, or a nonzero combination v with v B zero
abbrev pub Sends : ℕ → Mat → Stage → List ℕ → Type 0
Sends n B (Columns j) f = f ≡ column_frame j
Sends n B Full f = f ≡ status_frame
Sends n B (Status s) f = f ≡ status_frame
Sends n B (Rows i) f = (s : List ℕ) × (f ≡ 18 ∷ i % 256 ∷ i / 256 ∷ s) × (length s ≡ bytes_for n) × UnitRow n B i s
Sends n B (Combination r) f = (v : List ℕ) × (f ≡ 19 ∷ v) × (length v ≡ bytes_for n) × Vanishes n B v
Sends n B Done f = f ≡ []

-- after a speaking that is not refused: what is known then, and what the frame in memory means
pub record Speaks (n : ℕ) (B : Mat) (st : Stage) (r : Result (Option ℕ) HostFault) (st' : Stage) (xs' ys' fr' : List ℕ) : Type 0 where
  pub knows : Knows n B st' xs' ys'
  pub sends : Sends n B st (written r fr')

-- r is the reply of a card with B in phase 0 that has taken i rows; any, where none is looked at
abbrev pub RepliedBy : ℕ → Mat → ℕ → Stage → List ℕ → Type 0
RepliedBy n B i (Columns j) r = r ≡ 33 ∷ j % 256 ∷ j / 256 ∷ pack n (λ a. B a j)
RepliedBy n B i (Status s) r = r ≡ 36 ∷ 0 ∷ i % 256 ∷ i / 256 ∷ []
RepliedBy n B i st r = Unit {0}

-- such a reply is accepted, and what the tables hold of B stays known
pub record Learns (n : ℕ) (B : Mat) (i : ℕ) (st : Stage) (r : Result (Unit {0}) HostFault) (st' : Stage) (xs' ys : List ℕ) : Type 0 where
  pub accepted : r ≡ Ok tt
  pub stage : st' ≡ after_reply n i st
  pub knows : Knows n B st' xs' ys

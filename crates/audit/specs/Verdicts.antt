-- What each verdict on published bytes xs tells of a key of sizes s with the check matrix H. Assumes nothing.
-- SameColumns        the first columns are the public matrix's
-- Differs            the first wrong bit
-- Padless, Padded    a row with no pad bit set, the first with one
-- Belongs, Long      xs is the packed public matrix, or as long
-- Tells              the meaning of a verdict
use Rattle.std.specs.Prelude.{◌≡◌, ℕ, ◌*◌, ◌<◌, ◌≤◌, ◌≢◌, List, length}
use Rattle.galois.specs.Bit.{bits}
use Rattle.matrix.specs.Matrix.{Mat}
use Rattle.matrix.specs.Words.{Singular}
use Rattle.bits.specs.Bits.{bytes_for}
use Rattle.bits.specs.Columns.{packed_rows}
use Rattle.sink.specs.Store.{key_matrix}
use Rattle.key.specs.Columns.{IsPublic}
use Rattle.key.specs.declared.sizes.Sizes.{Sizes}
use Rattle.audit.specs.declared.verdict.Verdict.{Verdict}
use Rattle.audit.specs.declared.verdict.Verdict.TheVariants.{Right, Length, NoKey, Wrong, Pad}

-- the first c columns of n packed rows of k bits are those of T
abbrev pub SameColumns : ℕ → ℕ → List ℕ → Mat → ℕ → Type 0
SameColumns n k xs T c = (a b : ℕ) → a < n → b < c → key_matrix k xs a b ≡ T a b

-- column c of k is the first that is not T's, and i its first row of n with another bit
pub record Differs (n k : ℕ) (xs : List ℕ) (T : Mat) (c i : ℕ) : Type 0 where
  pub column : c < k
  pub row : i < n
  pub earlier : SameColumns n k xs T c
  pub above : (a : ℕ) → a < i → key_matrix k xs a c ≡ T a c
  pub differs : key_matrix k xs i c ≢ T i c

-- the bits past the k of row i are 0
abbrev pub Padless : ℕ → List ℕ → ℕ → Type 0
Padless k xs i = (j : ℕ) → k ≤ j → j < 8 * bytes_for k → key_matrix k xs i j ≡ 0

-- row i of n is the first of which a bit past its k is not 0
pub record Padded (n k : ℕ) (xs : List ℕ) (i : ℕ) : Type 0 where
  pub row : i < n
  pub above : (a : ℕ) → a < i → Padless k xs a
  pub dirty : Padless k xs i → ⊥

-- the bytes xs are the packed public matrix
pub record Belongs (s : Sizes) (H : Mat) (xs : List ℕ) : Type 0 where
  pub key : Mat
  pub public : IsPublic s H key
  pub packed : xs ≡ packed_rows s.rows s.rest key

-- xs is as long as the packed public matrix
abbrev pub Long : Sizes → List ℕ → Type 0
Long s xs = length xs ≡ s.rows * bytes_for s.rest

-- what a verdict tells
abbrev pub Tells : Sizes → Mat → List ℕ → Verdict → Type 0
Tells s H xs Right = Belongs s H xs
Tells s H xs (Length l) = (l ≡ length xs) × (Long s xs → ⊥)
Tells s H xs NoKey = Long s xs × Singular bits s.rows H × ((T : Mat) → IsPublic s H T → ⊥)
Tells s H xs (Wrong c i) = (T : Mat) × IsPublic s H T × Long s xs × Differs s.rows s.rest xs T c i
Tells s H xs (Pad i) = (T : Mat) × IsPublic s H T × Long s xs × SameColumns s.rows s.rest xs T s.rest × Padded s.rows s.rest xs i

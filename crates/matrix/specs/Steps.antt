-- What elimination keeps, over the matrix M that it began with. What private steps promise; no public contract cites it.
-- Assumes nothing.
use Rattle.std.specs.Prelude.{◌≡◌, ℕ, ◌<◌, ◌≤◌, ◌≢◌}
use Rattle.galois.specs.Arith.{Arith}
use Rattle.matrix.specs.Matrix.{Mat, delta, times, Same}

-- X is Y times M, and Y has an inverse
pub record Tied (F : Arith) (n : ℕ) (M X Y : Mat) : Type 0 where
  pub made : Same n (times F n Y M) X
  pub back : Mat
  pub backed : Same n (times F n Y back) delta

-- c columns are done, with r pivots
pub record State (F : Arith) (n : ℕ) (M X Y : Mat) (c r : ℕ) : Type 0 where
  pub tied : Tied F n M X Y
  pub low : r ≤ c
  pub zeros : (a j : ℕ) → r ≤ a → a < n → j < c → X a j ≡ 0
  pub units : r ≡ c → (a j : ℕ) → a < n → j < c → X a j ≡ delta a j

-- row r has its pivot in column c, and the other rows below i are cleared there
pub record Clearing (F : Arith) (n : ℕ) (M X Y : Mat) (c r i : ℕ) : Type 0 where
  pub tied : Tied F n M X Y
  pub low : r ≤ c
  pub col : c < n
  pub head : X r c ≡ 1
  pub zeros : (a j : ℕ) → r ≤ a → a < n → j < c → X a j ≡ 0
  pub units : r ≡ c → (a j : ℕ) → a < n → j < c → X a j ≡ delta a j
  pub done : (a : ℕ) → a < i → a < n → a ≢ r → X a c ≡ 0

-- Matrices over a field of characteristic 2 whose elements are numbers below 2 ^ width. add_row, scale_row and swap_rows
-- are for private functions. Assumes nothing.
use Rattle.std.specs.Prelude.{◌≡◌, ℕ, zero, suc, ◌^◌, ◌<◌, cond, ◌≢◌, ◌==◌, bit_xor}
use Rattle.galois.specs.Arith.{Arith}

-- a matrix of numbers, by row and column
abbrev pub Mat : Type 0
Mat = ℕ → ℕ → ℕ

-- the sum of f 0 to f (n - 1)
unfoldable pub sum : ℕ → (ℕ → ℕ) → ℕ
sum zero f = 0
sum (suc n) f = bit_xor (sum n f) (f n)

-- the unit matrix: 1 where row and column are equal, else 0
unfoldable pub delta : Mat
delta i j = cond (i == j) 1 0

-- A B, for A of n columns and B of n rows
unfoldable pub times : Arith → ℕ → Mat → Mat → Mat
times F n A B i j = sum n (λ k. F.mul (A i k) (B k j))

-- equal as n by n matrices
abbrev pub Same : ℕ → Mat → Mat → Type 0
Same n A B = (i j : ℕ) → i < n → j < n → A i j ≡ B i j

-- the first n of v are elements: numbers below 2^w
abbrev pub Elements : ℕ → ℕ → (ℕ → ℕ) → Type 0
Elements w n v = (i : ℕ) → i < n → v i < 2 ^ w

-- every entry is an element
abbrev pub Els : Arith → Mat → Type 0
Els F A = (i j : ℕ) → A i j < 2 ^ F.width

-- row i plus s times row r, in the place of row i
unfoldable pub add_row : Arith → ℕ → ℕ → ℕ → Mat → Mat
add_row F i r s M a j = cond (a == i) (bit_xor (M a j) (F.mul s (M r j))) (M a j)

-- s times row i, in the place of row i
unfoldable pub scale_row : Arith → ℕ → ℕ → Mat → Mat
scale_row F i s M a j = cond (a == i) (F.mul s (M a j)) (M a j)

-- rows i and r, each in the other's place
unfoldable pub swap_rows : ℕ → ℕ → Mat → Mat
swap_rows i r M a j = M (cond (a == i) r (cond (a == r) i a)) j

-- v is not zero, and its combination of the rows of M is
pub record Dependent (F : Arith) (n : ℕ) (M : Mat) (v : ℕ → ℕ) : Type 0 where
  pub at : ℕ
  pub at_lt : at < n
  pub nonzero : v at ≢ 0
  pub vanish : (j : ℕ) → j < n → sum n (λ k. F.mul (v k) (M k j)) ≡ 0

-- M v, for M of n columns
unfoldable pub apply : Arith → ℕ → Mat → (ℕ → ℕ) → ℕ → ℕ
apply F n M v i = sum n (λ k. F.mul (M i k) (v k))

-- v M, for M of n rows
unfoldable pub apply_row : Arith → ℕ → Mat → (ℕ → ℕ) → ℕ → ℕ
apply_row F n M v j = sum n (λ k. F.mul (v k) (M k j))

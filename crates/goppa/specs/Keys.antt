-- What every key slot holds: the coefficients g_0 to g_(t-1) of g, the support a_0 to a_(n-1), the
-- inverses of g on it, and 0 past them. Assumes nothing.
use Rattle.std.specs.Prelude.{◌≡◌, ℕ, ◌<◌, ◌≤◌, ◌≢◌, List, length, slice_index}
use Rattle.galois.specs.Gf.{inverse_of}
use Rattle.goppa.specs.Checks.{value}

-- the cells of xs from n on are 0
abbrev pub ZeroFrom : (n : ℕ) → List ℕ → Type 0
ZeroFrom n xs = (k : ℕ) → n ≤ k → k < length xs → slice_index xs k ≡ 0

-- the support has no repeats
abbrev pub Distinct : (n : ℕ) → (ℕ → ℕ) → Type 0
Distinct n a = (i j : ℕ) → i < j → j < n → a i ≢ a j

-- g is not zero on the support
abbrev pub Rootless : (m f t n : ℕ) → (ℕ → ℕ) → (ℕ → ℕ) → Type 0
Rootless m f t n g a = (j : ℕ) → j < n → value m f t g (a j) ≢ 0

-- y_j = 1 / g(a_j)
abbrev pub Inverses : (m f t n : ℕ) → (ℕ → ℕ) → (ℕ → ℕ) → (ℕ → ℕ) → Type 0
Inverses m f t n g a y = (j : ℕ) → j < n → y j ≡ inverse_of m f (value m f t g (a j))

-- Polynomials over a field, modulo a polynomial F(y) of degree t. A polynomial is its coefficients, p i
-- being that of y^i. mul is the field's product; low holds the coefficients of F(y) below y^t, whose own
-- is 1. Assumes nothing.
use Rattle.std.specs.Prelude.{◌≡◌, ℕ, zero, suc, ◌+◌, ◌-◌, ◌<◌, bit_xor}
use Rattle.galois.specs.Arith.{Arith}
use Rattle.matrix.specs.Matrix.{sum, delta, Elements}

-- y times p, before y^t is replaced
abbrev pub raised : (ℕ → ℕ) → ℕ → ℕ
raised p zero = 0
raised p (suc i) = p i

-- y times p modulo F(y): y^t is replaced by the terms of F(y) below it
unfoldable pub times_y : (ℕ → ℕ → ℕ) → ℕ → (ℕ → ℕ) → (ℕ → ℕ) → ℕ → ℕ
times_y mul t low p i = bit_xor (raised p i) (mul (p (t - 1)) (low i))

-- the remainder of y^k modulo F(y)
unfoldable pub remainder : (ℕ → ℕ → ℕ) → ℕ → (ℕ → ℕ) → ℕ → ℕ → ℕ
remainder mul t low zero = delta 0
remainder mul t low (suc k) = times_y mul t low (remainder mul t low k)

-- the product of a and b modulo F(y): the sum of a_j b_k y^(j + k), with the remainder for each power of y
unfoldable pub product : (ℕ → ℕ → ℕ) → ℕ → (ℕ → ℕ) → (ℕ → ℕ) → (ℕ → ℕ) → ℕ → ℕ
product mul t low a b i = sum t (λ j. sum t (λ k. mul (mul (a j) (b k)) (remainder mul t low (j + k) i)))

-- b to the power n modulo F(y)
unfoldable pub power : (ℕ → ℕ → ℕ) → ℕ → (ℕ → ℕ) → (ℕ → ℕ) → ℕ → ℕ → ℕ
power mul t low b zero = delta 0
power mul t low b (suc n) = product mul t low b (power mul t low b n)

-- the sum of v_j b^j, for j below t
unfoldable pub combined : (ℕ → ℕ → ℕ) → ℕ → (ℕ → ℕ) → (ℕ → ℕ) → (ℕ → ℕ) → ℕ → ℕ
combined mul t low b v i = sum t (λ j. mul (v j) (power mul t low b j i))

-- g(b) = b^t + g_(t-1) b^(t-1) + .. + g_0
unfoldable pub value : (ℕ → ℕ → ℕ) → ℕ → (ℕ → ℕ) → (ℕ → ℕ) → (ℕ → ℕ) → ℕ → ℕ
value mul t low b g i = bit_xor (power mul t low b t i) (combined mul t low b g i)

-- p is zero modulo F(y)
abbrev pub Zero : ℕ → (ℕ → ℕ) → Type 0
Zero t p = (i : ℕ) → i < t → p i ≡ 0

-- p and q are equal modulo F(y)
abbrev pub Alike : ℕ → (ℕ → ℕ) → (ℕ → ℕ) → Type 0
Alike t p q = (i : ℕ) → i < t → p i ≡ q i

-- what makes these the polynomials modulo F(y), over the field K
pub record Ring (K : Arith) (t : ℕ) (low : ℕ → ℕ) : Type 0 where
  -- the product is of elements, and depends on the coefficients below y^t alone
  pub elements : (a b : ℕ → ℕ) → Elements K.width t (product K.mul t low a b)
  pub below : (a a' b b' : ℕ → ℕ) → Alike t a a' → Alike t b b' → Alike t (product K.mul t low a b) (product K.mul t low a' b')
  pub commutes : (a b : ℕ → ℕ) → Alike t (product K.mul t low a b) (product K.mul t low b a)
  pub associates : (a b c : ℕ → ℕ) → Alike t (product K.mul t low (product K.mul t low a b) c) (product K.mul t low a (product K.mul t low b c))
  pub distributes : (a b c : ℕ → ℕ) → Alike t (product K.mul t low a (λ i. bit_xor (b i) (c i))) (λ i. bit_xor (product K.mul t low a b i) (product K.mul t low a c i))
  pub one : (a : ℕ → ℕ) → Elements K.width t a → Alike t (product K.mul t low (delta 0) a) a
  -- y^k is a unit vector below y^t, y^t is the rest of F(y), and powers of y add up
  pub units : (k : ℕ) → k < t → Alike t (remainder K.mul t low k) (delta k)
  pub top : Elements K.width t low → Alike t (remainder K.mul t low t) low
  pub powers : (j k : ℕ) → Alike t (product K.mul t low (remainder K.mul t low j) (remainder K.mul t low k)) (remainder K.mul t low (j + k))

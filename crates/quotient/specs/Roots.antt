-- Monic polynomials that are zero at a polynomial b modulo F(y). Assumes nothing.
use Rattle.std.specs.Prelude.{◌≡◌, ℕ, ◌<◌, ◌≢◌}
use Rattle.matrix.specs.Matrix.{Elements}
use Rattle.quotient.specs.Quotient.{Zero, Alike, combined, value}

-- 1, b, .., b^(t - 1) are independent: only the zero combination of them is zero
abbrev pub Independent : (ℕ → ℕ → ℕ) → ℕ → ℕ → (ℕ → ℕ) → (ℕ → ℕ) → Type 0
Independent mul w t low b = (v : ℕ → ℕ) → Elements w t v → Zero t (combined mul t low b v) → (j : ℕ) → j < t → v j ≡ 0

-- some combination of them is zero, and not all of it is
pub record DependentPowers (mul : ℕ → ℕ → ℕ) (w t : ℕ) (low b : ℕ → ℕ) : Type 0 where
  pub v : ℕ → ℕ
  pub elements : Elements w t v
  pub zero : Zero t (combined mul t low b v)
  pub at : ℕ
  pub at_lt : at < t
  pub nonzero : v at ≢ 0

-- g is the only monic polynomial of degree t over the field that is zero at b, and 1, b, .. are independent
pub record TheMonic (mul : ℕ → ℕ → ℕ) (w t : ℕ) (low b g : ℕ → ℕ) : Type 0 where
  pub elements : Elements w t g
  pub zero : Zero t (value mul t low b g)
  pub only : (h : ℕ → ℕ) → Elements w t h → Zero t (value mul t low b h) → Alike t h g
  pub independent : Independent mul w t low b

-- The laws of a field that is computed modulo f, a polynomial of degree w.
use Rattle.std.specs.Prelude.{ℕ, ◌≡◌, ◌/◌, ◌^◌, ◌≤◌}
use Rattle.galois.specs.Arith.{Arith}
use Rattle.galois.specs.Gf.{times, inverse_of}

-- f has degree w, and a is the arithmetic modulo f
pub record Laws (w f : ℕ) (a : Arith) : Type 0 where
  -- twice an element still fits 16 bits
  pub narrow : w ≤ 15
  -- f has degree w
  pub top : f / 2 ^ w ≡ 1
  -- its elements are the numbers below 2 ^ w
  pub wide : a.width ≡ w
  -- its product is the one modulo f
  pub product : (x y : ℕ) → a.mul x y ≡ times w f x y
  -- its inverse is the one modulo f
  pub inversion : (x : ℕ) → a.inv x ≡ inverse_of w f x

-- Powers of a polynomial modulo F(y), and the polynomial of which it is a root, from an inverse of the matrix of its powers. Assumes nothing.
use Rattle.std.proofs.Common.{◌≡◌, ℕ, zero, suc, ◌+◌, ◌^◌, ◌<◌, ◌⊎◌, sym, ap, ◌∙◌, inl, inr, add-one}
use lib.Bits.{bit_xor, xor_self}
use Rattle.galois.specs.Arith.{Arith}
use Rattle.matrix.specs.Matrix.{Mat, sum, delta, times, Same, Elements}
use Rattle.matrix.specs.Matrix as matrix
use Rattle.matrix.proofs.Sums.{sum-cong, sum-zero, row-assoc, zero-mul, times-delta}
use Rattle.matrix.proofs.Rows.{delta-lt}
use Rattle.matrix.proofs.Checks.{xor-equal, inverses}
use Rattle.quotient.specs.Quotient.{product, power, combined, value}
use Rattle.quotient.specs.Roots.{DependentPowers, TheMonic}
use Rattle.quotient.proofs.Steps.{sum-element}
use Rattle.quotient.proofs.Ring.{product-element}

module _ (K : Arith) (t : ℕ) (low b : ℕ → ℕ) where
  -- the coefficients of a power are elements
  pub power-element : (n i : ℕ) → power K.mul t low b n i < 2 ^ K.width
  unfolding power
  power-element zero i = delta-lt K 1 0 i
  power-element (suc n) i = product-element K t low b (power K.mul t low b n) i

  -- one power more
  pub power-more : (n i : ℕ) → power K.mul t low b (n + 1) i ≡ product K.mul t low b (power K.mul t low b n) i
  unfolding power
  power-more n i = ap (λ x. power K.mul t low b x i) (add-one n)

  -- a dependence of the rows of powers is one of the powers
  pub dependent-made : (v : ℕ → ℕ) → Elements K.width t v → matrix.Dependent K t (power K.mul t low b) v → DependentPowers K.mul K.width t low b
  unfolding combined
  dependent-made v hv d = record { v = v; elements = hv; zero = d.vanish; at = d.at; at_lt = d.at_lt; nonzero = d.nonzero }

  module _ (Y : Mat) (left : Same t (times K t Y (power K.mul t low b)) delta) (right : Same t (times K t (power K.mul t low b) Y) delta) where
    -- the coefficients of b^t over 1, b, .., b^(t - 1)
    abbrev root : ℕ → ℕ
    root j = sum t (λ i. K.mul (power K.mul t low b t i) (Y i j))

    -- a combination of the powers, times Y, is its own coefficients
    combined-back : (v : ℕ → ℕ) → Elements K.width t v → (j : ℕ) → j < t → sum t (λ i. K.mul (combined K.mul t low b v i) (Y i j)) ≡ v j
    unfolding combined times
    combined-back v hv j l =
        row-assoc K t v (power K.mul t low b) (λ i. Y i j)
        ∙ sum-cong t _ _ (λ k lk. ap (K.mul (v k)) (right k j lk l))
        ∙ times-delta K t (λ _. v) 0 j l (hv j l)

    -- the combination by root is b^t
    combined-root : (i : ℕ) → i < t → combined K.mul t low b root i ≡ power K.mul t low b t i
    unfolding combined times
    combined-root i l =
        row-assoc K t (power K.mul t low b t) Y (λ j. power K.mul t low b j i)
        ∙ sum-cong t _ _ (λ k lk. ap (K.mul (power K.mul t low b t k)) (left k i lk l))
        ∙ times-delta K t (λ _. power K.mul t low b t) 0 i l (power-element t i)

    -- its entries are the coefficients of the root's polynomial
    pub root-made : TheMonic K.mul K.width t low b (λ j. sum t (λ i. K.mul (power K.mul t low b t i) (Y i j)))
    unfolding value
    root-made = record {
      elements = λ j l. sum-element K t _ (λ i. K.mul-lt (power K.mul t low b t i) (Y i j));
      zero = λ i l. ap (bit_xor (power K.mul t low b t i)) (combined-root i l) ∙ xor_self (power K.mul t low b t i);
      only = λ h hh z j l.
          sym (combined-back h hh j l)
          ∙ sum-cong t _ _ (λ i li. ap (λ x. K.mul x (Y i j)) (xor-equal (power K.mul t low b t i) (combined K.mul t low b h i) (z i li)));
      independent = λ v hv z j l.
          sym (combined-back v hv j l)
          ∙ sum-zero t _ (λ i li. ap (λ x. K.mul x (Y i j)) (z i li) ∙ zero-mul K (Y i j));
    }

  -- there is the one monic polynomial that is zero at b, or the powers of b are dependent
  pub monic-or-dependent : ((g : ℕ → ℕ) × TheMonic K.mul K.width t low b g) ⊎ DependentPowers K.mul K.width t low b
  monic-or-dependent = elim ((inverses K).decided t (power K.mul t low b) power-element) [
    | inl s ↦ inl (_, root-made s.0 s.1.undoes ((inverses K).two_sided t _ s.0 power-element s.1))
    | inr v ↦ inr (dependent-made v.0 v.1 v.2)
  ]

-- Polynomials put together from terms, one at a time. Assumes nothing.
use Rattle.std.proofs.Common.{◌≡◌, ℕ, cond, eqb, sym, ap, ◌∙◌, inl, inr}
use lib.Bits.{bit_xor, xor_assoc, xor_zero_r}
use Rattle.std.proofs.lemmas.Bool.{cases_eq, cond-true, cond-false, eq-eqb, ne_eqb}
use Rattle.galois.specs.Arith.{Arith}
use Rattle.matrix.proofs.Sums.{mul-zero}

-- p and the term c y^q
unfoldable pub with_term : ℕ → ℕ → (ℕ → ℕ) → ℕ → ℕ
with_term q c p i = bit_xor (p i) (cond (eqb i q) c 0)

module _ (q c : ℕ) (p : ℕ → ℕ) (i : ℕ) where
  -- at y^q a term adds its coefficient
  pub with-term-on : i ≡ q → with_term q c p i ≡ bit_xor (p i) c
  unfolding with_term
  with-term-on e = ap (bit_xor (p i)) (cond-true (eqb i q) c 0 (eq-eqb i q e))

  -- elsewhere it adds nothing
  pub with-term-off : (i ≡ q → ⊥) → with_term q c p i ≡ p i
  unfolding with_term
  with-term-off ne = ap (bit_xor (p i)) (cond-false (eqb i q) c 0 (ne_eqb i q ne)) ∙ xor_zero_r (p i)

module _ (K : Arith) (s : ℕ → ℕ) (top : ℕ) where
  -- s and top times no terms are s
  pub no-terms : (i : ℕ) → bit_xor (s i) (K.mul top 0) ≡ s i
  no-terms i = ap (bit_xor (s i)) (mul-zero K top) ∙ xor_zero_r (s i)

  -- where s and top times f stand, top times a term more is one addition
  pub term-more : (q c : ℕ) (f : ℕ → ℕ) (i : ℕ) →
      with_term q (K.mul top c) (λ j. bit_xor (s j) (K.mul top (f j))) i ≡ bit_xor (s i) (K.mul top (with_term q c f i))
  term-more q c f i = elim (cases_eq i q) [
    | inl e ↦
        with-term-on q (K.mul top c) (λ j. bit_xor (s j) (K.mul top (f j))) i e
        ∙ xor_assoc (s i) (K.mul top (f i)) (K.mul top c)
        ∙ ap (bit_xor (s i)) (sym (K.mul-xor top (f i) c) ∙ ap (K.mul top) (sym (with-term-on q c f i e)))
    | inr ne ↦
        with-term-off q (K.mul top c) (λ j. bit_xor (s j) (K.mul top (f j))) i ne
        ∙ ap (λ x. bit_xor (s i) (K.mul top x)) (sym (with-term-off q c f i ne))
  ]

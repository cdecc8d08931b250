-- The product of two polynomials modulo F(y), one coefficient of the first factor after the other. Assumes nothing.
use Rattle.std.proofs.Common.{◌≡◌, ℕ, ◌+◌, ◌<◌, sym, refl, ap, ap₂, ◌∙◌, subst, add-one}
use lib.Bits.{bit_xor}
use Rattle.galois.specs.Arith.{Arith}
use Rattle.galois.specs.Gf.{times}
use Rattle.matrix.specs.Matrix.{sum, Elements}
use Rattle.quotient.specs.Quotient.{times_y, product, Alike}
use Rattle.quotient.proofs.Steps.{climbed, times-y-alike, product-climbs}
use Rattle.maker.proofs.Field.{IsField, one-product}
use Rattle.maker.proofs.Sums.{sum-none, sum-more}

-- after j coefficients of a: s is b raised j times, and out the sum of what they give
pub record Climbing (m f t : ℕ) (low a b : ℕ → ℕ) (j : ℕ) (s out : ℕ → ℕ) : Type 0 where
  pub raised : (i : ℕ) → i < t → s i ≡ climbed (times m f) t low b j i
  pub summed : (i : ℕ) → i < t → out i ≡ sum j (λ k. times m f (a k) (climbed (times m f) t low b k i))

climbed-none : (T : ℕ → ℕ → ℕ) (t : ℕ) (low b : ℕ → ℕ) (i : ℕ) → climbed T t low b 0 i ≡ b i
unfolding climbed
climbed-none T t low b i = refl

climbed-more : (T : ℕ → ℕ → ℕ) (t : ℕ) (low b : ℕ → ℕ) (j i : ℕ) → times_y T t low (climbed T t low b j) i ≡ climbed T t low b (j + 1) i
unfolding climbed
climbed-more T t low b j i = ap (λ k. climbed T t low b k i) (sym (add-one j))

pub climb-start : (m f t : ℕ) (low a b out : ℕ → ℕ) → ((i : ℕ) → i < t → out i ≡ 0) → Climbing m f t low a b 0 b out
climb-start m f t low a b out h = record {
  raised = λ i l. sym (climbed-none (times m f) t low b i);
  summed = λ i l. h i l ∙ sum-none _;
}

module _ (K : Arith) (m f : ℕ) (field : IsField K m f) (t : ℕ) (low a b : ℕ → ℕ) (some : 0 < t) where
  alike : (p q : ℕ → ℕ) → Alike t p q → Alike t (times_y (times m f) t low p) (times_y (times m f) t low q)
  alike = subst (λ T. (p q : ℕ → ℕ) → Alike t p q → Alike t (times_y T t low p) (times_y T t low q)) (one-product K m f field) (times-y-alike K t low some)

  pub climb-step : (j : ℕ) (s out s' out' : ℕ → ℕ) → Climbing m f t low a b j s out
      → ((i : ℕ) → i < t → out' i ≡ bit_xor (out i) (times m f (a j) (s i)))
      → ((i : ℕ) → i < t → s' i ≡ times_y (times m f) t low s i)
      → Climbing m f t low a b (j + 1) s' out'
  climb-step j s out s' out' c o r = record {
    raised = λ i l. r i l ∙ alike s (climbed (times m f) t low b j) c.raised i l ∙ climbed-more (times m f) t low b j i;
    summed = λ i l.
        o i l
        ∙ ap₂ bit_xor (c.summed i l) (ap (times m f (a j)) (c.raised i l))
        ∙ sym (sum-more j (λ k. times m f (a k) (climbed (times m f) t low b k i)));
  }

  climbs : Elements m t b → (i : ℕ) → i < t → product (times m f) t low a b i ≡ sum t (λ k. times m f (a k) (climbed (times m f) t low b k i))
  climbs =
      subst (λ w. Elements w t b → (i : ℕ) → i < t → product (times m f) t low a b i ≡ sum t (λ k. times m f (a k) (climbed (times m f) t low b k i))) field.wide
      (subst (λ T. Elements K.width t b → (i : ℕ) → i < t → product T t low a b i ≡ sum t (λ k. T (a k) (climbed T t low b k i))) (one-product K m f field)
      (product-climbs K t low some a b))

  pub climb-end : (j : ℕ) (s out : ℕ → ℕ) → j ≡ t → Elements m t b → Climbing m f t low a b j s out → (i : ℕ) → i < t → out i ≡ product (times m f) t low a b i
  climb-end j s out e h c i l =
      c.summed i l ∙ ap (λ n. sum n (λ k. times m f (a k) (climbed (times m f) t low b k i))) e ∙ sym (climbs h i l)

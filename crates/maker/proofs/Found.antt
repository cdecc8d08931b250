-- What a solved table of powers gives. Assumes nothing.
use Rattle.std.proofs.Common.{◌≡◌, ℕ, zero, suc, ◌^◌, ◌<◌, sym, refl, ap, ◌∙◌, subst}
use lib.Bits.{bit_xor}
use Rattle.galois.specs.Arith.{Arith}
use Rattle.galois.specs.Gf.{times}
use Rattle.matrix.specs.Matrix as matrix
use Rattle.matrix.specs.Matrix.{Mat, Same, delta, sum}
use Rattle.matrix.proofs.Sums.{sum-cong, times-left, times-right}
use Rattle.quotient.specs.Quotient.{Alike, power, combined, value}
use Rattle.quotient.specs.Roots.{DependentPowers, TheMonic}
use Rattle.quotient.proofs.Ring.{product-alike}
use Rattle.quotient.proofs.Roots.{root-made, dependent-made}
use Rattle.maker.proofs.Field.{IsField, one-product}

module _ (K : Arith) (t : ℕ) (low : ℕ → ℕ) where
  -- the powers of b depend on its coefficients below y^t alone
  powers-alike : (b b' : ℕ → ℕ) → Alike t b b' → (n i : ℕ) → power K.mul t low b n i ≡ power K.mul t low b' n i
  unfolding power
  powers-alike b b' h zero i = refl
  powers-alike b b' h (suc n) i = product-alike K t low b b' (power K.mul t low b n) (power K.mul t low b' n) h (λ q l. powers-alike b b' h n q) i

  module _ (b : ℕ → ℕ) where
    value-alike : (g g' : ℕ → ℕ) → Alike t g g' → (i : ℕ) → value K.mul t low b g i ≡ value K.mul t low b g' i
    unfolding value combined
    value-alike g g' h i = ap (bit_xor (power K.mul t low b t i)) (sum-cong t _ _ (λ j l. ap (λ x. K.mul x (power K.mul t low b j i)) (h j l)))

    -- a polynomial with the coefficients of the root's is that one
    root-alike : (g g' : ℕ → ℕ) → Alike t g' g → TheMonic K.mul K.width t low b g → TheMonic K.mul K.width t low b g'
    root-alike g g' h r = record {
      elements = λ i l. subst (λ v. v < 2 ^ K.width) (sym (h i l)) (r.elements i l);
      zero = λ i l. value-alike g' g h i ∙ r.zero i l;
      only = λ p hp z i l. r.only p hp z i l ∙ sym (h i l);
      independent = r.independent;
    }

  module _ (b b' : ℕ → ℕ) (ab : Alike t b b') (M Y : Mat) (rows : Same t M (power K.mul t low b')) where
    rows-of : Same t M (power K.mul t low b)
    rows-of i j li lj = rows i j li lj ∙ sym (powers-alike b b' ab i j)

    over-root : (p g : ℕ → ℕ) → Alike t p (power K.mul t low b' t) → Same t (matrix.times K t Y M) delta → Same t (matrix.times K t M Y) delta
        → ((k : ℕ) → k < t → g k ≡ sum t (λ i. K.mul (p i) (Y i k))) → TheMonic K.mul K.width t low b g
    over-root p g hp left right hg =
        root-alike b (λ j. sum t (λ i. K.mul (power K.mul t low b t i) (Y i j))) g
        (λ k l. hg k l ∙ sum-cong t _ _ (λ i li. ap (λ x. K.mul x (Y i k)) (hp i li ∙ sym (powers-alike b b' ab t i))))
        (root-made K t low b Y
        (λ i j li lj. times-right K t Y (power K.mul t low b) M i j (λ k lk. sym (rows-of k j lk lj)) ∙ left i j li lj)
        (λ i j li lj. times-left K t (power K.mul t low b) M Y i j (λ k lk. sym (rows-of i k li lk)) ∙ right i j li lj))

    over-dependent : (v : ℕ → ℕ) → ((i : ℕ) → v i < 2 ^ K.width) → matrix.Dependent K t M v → DependentPowers K.mul K.width t low b
    over-dependent v hv d =
        dependent-made K t low b v (λ i l. hv i)
        (record {
          at = d.at;
          at_lt = d.at_lt;
          nonzero = d.nonzero;
          vanish = λ j l. sum-cong t _ _ (λ k lk. ap (K.mul (v k)) (sym (rows-of k j lk l))) ∙ d.vanish j l;
        })

module _ (K : Arith) (m f : ℕ) (field : IsField K m f) (t : ℕ) (low b b' : ℕ → ℕ) (ab : Alike t b b') (M Y : Mat) (rows : Same t M (power (times m f) t low b')) where
  -- the power b^t times the inverse of the powers below it is the root's polynomial
  pub root-found : (p g : ℕ → ℕ) → Alike t p (power (times m f) t low b' t) → Same t (matrix.times K t Y M) delta → Same t (matrix.times K t M Y) delta
      → ((k : ℕ) → k < t → g k ≡ sum t (λ i. times m f (p i) (Y i k))) → TheMonic (times m f) m t low b g
  root-found p g hp left right hg =
      subst (λ w. TheMonic (times m f) w t low b g) field.wide
      (subst (λ T. Same t M (power T t low b') → Alike t p (power T t low b' t) → ((k : ℕ) → k < t → g k ≡ sum t (λ i. T (p i) (Y i k))) → TheMonic T K.width t low b g) (one-product K m f field)
      (λ rows' hp' hg'. over-root K t low b b' ab M Y rows' p g hp' left right hg')
      rows hp hg)

  -- a vanishing combination of the rows is one of the powers
  pub dependent-found : (v : ℕ → ℕ) → ((i : ℕ) → v i < 2 ^ K.width) → matrix.Dependent K t M v → DependentPowers (times m f) m t low b
  dependent-found v hv d =
      subst (λ w. DependentPowers (times m f) w t low b) field.wide
      (subst (λ T. Same t M (power T t low b') → DependentPowers T K.width t low b) (one-product K m f field)
      (λ rows'. over-dependent K t low b b' ab M Y rows' v hv d)
      rows)

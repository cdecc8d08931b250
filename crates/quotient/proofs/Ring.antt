-- The polynomials modulo F(y) are a ring. Assumes nothing.
use Rattle.std.proofs.Common.{◌≡◌, ℕ, ◌+◌, ◌^◌, ◌<◌, sym, ap, ◌∙◌, ap₂, arith, add_comm, zero-add}
use lib.Bits.{bit_xor}
use Rattle.galois.specs.Arith.{Arith}
use Rattle.matrix.specs.Matrix.{sum, delta, times, Elements}
use Rattle.matrix.proofs.Sums.{sum-cong, sum-xor, sum-swap, sum-mul, xor-mul, delta-times, times-delta, row-assoc}
use Rattle.quotient.specs.Quotient.{remainder, product, Alike, Ring}
use Rattle.quotient.proofs.Steps.{sum-element, remainder-unit, remainder-top, remainder-more}

module _ (K : Arith) (t : ℕ) (low : ℕ → ℕ) where
  -- the coefficients of a product are elements
  pub product-element : (a b : ℕ → ℕ) (i : ℕ) → product K.mul t low a b i < 2 ^ K.width
  unfolding product
  product-element a b i = sum-element K t _ (λ j. sum-element K t _ (λ k. K.mul-lt (K.mul (a j) (b k)) (remainder K.mul t low (j + k) i)))

  -- products of alike polynomials are alike, in all coefficients
  pub product-alike : (a a' b b' : ℕ → ℕ) → Alike t a a' → Alike t b b' → (i : ℕ) → product K.mul t low a b i ≡ product K.mul t low a' b' i
  unfolding product
  product-alike a a' b b' ha hb i =
      sum-cong t _ _ (λ j lj. sum-cong t _ _ (λ k lk. ap (λ x. K.mul x (remainder K.mul t low (j + k) i)) (ap₂ K.mul (ha j lj) (hb k lk))))

  -- the order of the factors is free
  pub product-commutes : (a b : ℕ → ℕ) (i : ℕ) → product K.mul t low a b i ≡ product K.mul t low b a i
  unfolding product
  product-commutes a b i =
      sum-swap t t (λ j k. K.mul (K.mul (a j) (b k)) (remainder K.mul t low (j + k) i))
      ∙ sum-cong t _ _ (λ k lk. sum-cong t _ _ (λ j lj.
      ap₂ K.mul (K.mul_comm (a j) (b k)) (ap (λ x. remainder K.mul t low x i) (add_comm j k))))

  -- the product distributes over sums
  pub product-distributes : (a b c : ℕ → ℕ) (i : ℕ) →
      product K.mul t low a (λ q. bit_xor (b q) (c q)) i ≡ bit_xor (product K.mul t low a b i) (product K.mul t low a c i)
  unfolding product
  product-distributes a b c i =
      sum-cong t _ _ (λ j lj.
      sum-cong t _ _ (λ k lk.
      ap (λ x. K.mul x (remainder K.mul t low (j + k) i)) (K.mul-xor (a j) (b k) (c k))
      ∙ xor-mul K (K.mul (a j) (b k)) (K.mul (a j) (c k)) (remainder K.mul t low (j + k) i))
      ∙ sum-xor t (λ k. K.mul (K.mul (a j) (b k)) (remainder K.mul t low (j + k) i)) (λ k. K.mul (K.mul (a j) (c k)) (remainder K.mul t low (j + k) i)))
      ∙ sum-xor t (λ j. sum t (λ k. K.mul (K.mul (a j) (b k)) (remainder K.mul t low (j + k) i))) (λ j. sum t (λ k. K.mul (K.mul (a j) (c k)) (remainder K.mul t low (j + k) i)))

  -- the row of sums over the second factor
  abbrev part : (ℕ → ℕ) → ℕ → ℕ → ℕ
  part b i j = sum t (λ k. K.mul (b k) (remainder K.mul t low (j + k) i))

  -- a product, with the first factor taken out of each sum
  product-parts : (a b : ℕ → ℕ) (i : ℕ) → product K.mul t low a b i ≡ sum t (λ j. K.mul (a j) (part b i j))
  unfolding product
  product-parts a b i = sum-cong t _ _ (λ j lj.
      sum-cong t _ _ (λ k lk. K.mul_assoc (a j) (b k) (remainder K.mul t low (j + k) i))
      ∙ sym (sum-mul K t (a j) (λ k. K.mul (b k) (remainder K.mul t low (j + k) i))))

  -- 1 is neutral
  pub product-one : (a : ℕ → ℕ) → Elements K.width t a → (i : ℕ) → i < t → product K.mul t low (delta 0) a i ≡ a i
  unfolding times
  product-one a ha i l =
      product-parts (delta 0) a i
      ∙ delta-times K t (λ j _. part a i j) 0 0 (omega arith) (sum-element K t _ (λ k. K.mul-lt (a k) (remainder K.mul t low (0 + k) i)))
      ∙ sum-cong t _ _ (λ k lk. ap (K.mul (a k)) (ap (λ x. remainder K.mul t low x i) (zero-add k) ∙ remainder-unit K t low k i lk l))
      ∙ times-delta K t (λ _. a) 0 i l (ha i l)

  -- the remainder of y^n, its coefficient of y^k times the remainder of y^(d + k), for all k below t
  shifted : 0 < t → (n d i : ℕ) → i < t → sum t (λ k. K.mul (remainder K.mul t low n k) (remainder K.mul t low (d + k) i)) ≡ remainder K.mul t low (n + d) i
  shifted ht n d i l =
      sum-cong t _ _ (λ k lk. ap (λ x. K.mul (remainder K.mul t low n k) (remainder K.mul t low x i)) (add_comm d k))
      ∙ remainder-more K t low ht n d i l

  -- powers of y add up
  pub product-powers : 0 < t → (n m i : ℕ) → i < t → product K.mul t low (remainder K.mul t low n) (remainder K.mul t low m) i ≡ remainder K.mul t low (n + m) i
  product-powers ht n m i l =
      product-parts (remainder K.mul t low n) (remainder K.mul t low m) i
      ∙ sum-cong t _ _ (λ j lj. ap (K.mul (remainder K.mul t low n j)) (
      shifted ht m j i l ∙ ap (λ x. remainder K.mul t low x i) (add_comm m j)))
      ∙ remainder-more K t low ht n m i l

  -- y^p times (y^q times c): the second product taken first, or the powers added first
  parts-powers : 0 < t → (c : ℕ → ℕ) (p q i : ℕ) → i < t →
      sum t (λ j. K.mul (remainder K.mul t low (p + q) j) (part c i j)) ≡ sum t (λ k. K.mul (part c k q) (remainder K.mul t low (p + k) i))
  parts-powers ht c p q i l =
      sum-cong t _ _ (λ j lj. K.mul_comm (remainder K.mul t low (p + q) j) (part c i j))
      ∙ row-assoc K t c (λ s j. remainder K.mul t low (j + s) i) (remainder K.mul t low (p + q))
      ∙ sum-cong t _ _ (λ s ls. ap (K.mul (c s)) (
      sum-cong t _ _ (λ j lj. K.mul_comm (remainder K.mul t low (j + s) i) (remainder K.mul t low (p + q) j))
      ∙ remainder-more K t low ht (p + q) s i l
      ∙ ap (λ x. remainder K.mul t low x i) (let e : p + q + s ≡ q + s + p = omega arith in e)
      ∙ sym (shifted ht (q + s) p i l)))
      ∙ sym (row-assoc K t c (λ s k. remainder K.mul t low (q + s) k) (λ k. remainder K.mul t low (p + k) i))

  -- y^p times (b times c): the second product taken first, or y^p times b
  parts-product : 0 < t → (b c : ℕ → ℕ) (p i : ℕ) → i < t →
      sum t (λ j. K.mul (part b j p) (part c i j)) ≡ part (product K.mul t low b c) i p
  parts-product ht b c p i l =
      row-assoc K t b (λ q j. remainder K.mul t low (p + q) j) (part c i)
      ∙ sum-cong t _ _ (λ q lq. ap (K.mul (b q)) (parts-powers ht c p q i l))
      ∙ sym (row-assoc K t b (λ q k. part c k q) (λ k. remainder K.mul t low (p + k) i))
      ∙ sum-cong t _ _ (λ k lk. ap (λ x. K.mul x (remainder K.mul t low (p + k) i)) (sym (product-parts b c k)))

  -- (a b) c = a (b c)
  pub product-associates : 0 < t → (a b c : ℕ → ℕ) (i : ℕ) → i < t →
      product K.mul t low (product K.mul t low a b) c i ≡ product K.mul t low a (product K.mul t low b c) i
  product-associates ht a b c i l =
      product-parts (product K.mul t low a b) c i
      ∙ sum-cong t _ _ (λ j lj. ap (λ x. K.mul x (part c i j)) (product-parts a b j))
      ∙ row-assoc K t a (λ p j. part b j p) (part c i)
      ∙ sum-cong t _ _ (λ p lp. ap (K.mul (a p)) (parts-product ht b c p i l))
      ∙ sym (product-parts a (product K.mul t low b c) i)

  pub ring : 0 < t → Ring K t low
  ring ht = record {
    elements = λ a b i l. product-element a b i;
    below = λ a a' b b' ha hb i l. product-alike a a' b b' ha hb i;
    commutes = λ a b i l. product-commutes a b i;
    associates = product-associates ht;
    distributes = λ a b c i l. product-distributes a b c i;
    one = product-one;
    units = λ k lk i l. remainder-unit K t low k i lk l;
    top = remainder-top K t low ht;
    powers = product-powers ht;
  }

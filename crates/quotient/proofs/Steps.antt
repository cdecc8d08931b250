-- Remainders of powers of y, multiplication by y, and products as sums of what it gives. Assumes nothing.
use Rattle.std.proofs.Common.{◌≡◌, ℕ, zero, suc, ◌+◌, ◌-◌, ◌^◌, ◌<◌, sym, refl, ap, ◌∙◌, ap₂, inl, inr, add-zero, arith, pow_pos, add-suc, add_comm}
use lib.Bits.{bit_xor, xor_zero_l, xor_zero_r, xor_lt}
use Rattle.std.proofs.lemmas.Bool.{cases_eq}
use Rattle.galois.specs.Arith.{Arith}
use Rattle.matrix.specs.Matrix.{sum, delta, times, Elements}
use Rattle.matrix.proofs.Sums.{sum-cong, sum-zero, sum-xor, sum-mul, mul-sum, mul-zero, zero-mul, delta-on, delta-off, times-delta}
use Rattle.matrix.proofs.Rows.{delta-lt}
use Rattle.quotient.specs.Quotient.{raised, times_y, remainder, product, Alike}

-- b, raised j times by times_y
unfoldable pub climbed : (ℕ → ℕ → ℕ) → ℕ → (ℕ → ℕ) → (ℕ → ℕ) → ℕ → ℕ → ℕ
climbed mul t low b zero = b
climbed mul t low b (suc j) = times_y mul t low (climbed mul t low b j)

module _ (K : Arith) where
  -- a sum of elements is an element
  pub sum-element : (n : ℕ) (f : ℕ → ℕ) → ((k : ℕ) → f k < 2 ^ K.width) → sum n f < 2 ^ K.width
  unfolding sum
  sum-element zero f h = pow_pos K.width
  sum-element (suc n) f h = xor_lt K.width (sum n f) (f n) (sum-element n f h) (h n)

module _ (K : Arith) (t : ℕ) (low : ℕ → ℕ) where
  -- y times a polynomial of elements has elements
  times-y-element : (p : ℕ → ℕ) → ((i : ℕ) → p i < 2 ^ K.width) → (i : ℕ) → times_y K.mul t low p i < 2 ^ K.width
  unfolding times_y
  times-y-element p h zero = xor_lt K.width 0 _ (pow_pos K.width) (K.mul-lt (p (t - 1)) (low 0))
  times-y-element p h (suc i) = xor_lt K.width (p i) _ (h i) (K.mul-lt (p (t - 1)) (low (suc i)))

  -- the coefficients of a remainder are elements
  pub remainder-element : (k i : ℕ) → remainder K.mul t low k i < 2 ^ K.width
  unfolding remainder
  remainder-element zero i = delta-lt K 1 0 i
  remainder-element (suc k) i = times-y-element (remainder K.mul t low k) (remainder-element k) i

  -- y times a polynomial depends on the coefficients below y^t alone
  pub times-y-alike : 0 < t → (p q : ℕ → ℕ) → Alike t p q → Alike t (times_y K.mul t low p) (times_y K.mul t low q)
  unfolding times_y
  times-y-alike ht p q h zero l = ap (λ x. bit_xor 0 (K.mul x (low 0))) (h (t - 1) (omega arith))
  times-y-alike ht p q h (suc i) l = ap₂ bit_xor (h i (omega arith)) (ap (λ x. K.mul x (low (suc i))) (h (t - 1) (omega arith)))

  -- raised is linear
  raised-sum : (n : ℕ) (c : ℕ → ℕ) (f : ℕ → ℕ → ℕ) (i : ℕ) → raised (λ q. sum n (λ k. K.mul (c k) (f k q))) i ≡ sum n (λ k. K.mul (c k) (raised (f k) i))
  raised-sum n c f zero = sym (sum-zero n _ (λ k l. mul-zero K (c k)))
  raised-sum n c f (suc i) = refl

  -- times_y is linear
  pub times-y-sum : (n : ℕ) (c : ℕ → ℕ) (f : ℕ → ℕ → ℕ) (i : ℕ) →
      times_y K.mul t low (λ q. sum n (λ k. K.mul (c k) (f k q))) i ≡ sum n (λ k. K.mul (c k) (times_y K.mul t low (f k) i))
  unfolding times_y
  times-y-sum n c f i =
      ap₂ bit_xor
      (raised-sum n c f i)
      (mul-sum K n (low i) (λ k. K.mul (c k) (f k (t - 1))) ∙ sum-cong n _ _ (λ k l. K.mul_assoc (c k) (f k (t - 1)) (low i)))
      ∙ sym (sum-xor n (λ k. K.mul (c k) (raised (f k) i)) (λ k. K.mul (c k) (K.mul (f k (t - 1)) (low i))))
      ∙ sum-cong n _ _ (λ k l. sym (K.mul-xor (c k) (raised (f k) i) (K.mul (f k (t - 1)) (low i))))

  -- raising a unit vector below the top gives the next one
  raised-delta : (k i : ℕ) → raised (delta k) i ≡ delta (suc k) i
  raised-delta k zero = sym (delta-off (suc k) 0 (λ e. omega arith))
  raised-delta k (suc i) = elim (cases_eq k i) [
    | inl e ↦ delta-on k i e ∙ sym (delta-on (suc k) (suc i) (ap suc e))
    | inr ne ↦ delta-off k i ne ∙ sym (delta-off (suc k) (suc i) (λ e. ne (omega arith)))
  ]

  -- y times a power of y below y^(t - 1) is the next power
  times-y-delta : (k i : ℕ) → suc k < t → times_y K.mul t low (delta k) i ≡ delta (suc k) i
  unfolding times_y
  times-y-delta k i l =
      ap₂ bit_xor (raised-delta k i) (ap (λ x. K.mul x (low i)) (delta-off k (t - 1) (λ e. omega arith)) ∙ zero-mul K (low i))
      ∙ xor_zero_r (delta (suc k) i)

  -- below y^t a power of y is its own remainder
  pub remainder-unit : (k i : ℕ) → k < t → i < t → remainder K.mul t low k i ≡ delta k i
  unfolding remainder
  remainder-unit zero i lk li = refl
  remainder-unit (suc k) i lk li =
      times-y-alike (omega arith) (remainder K.mul t low k) (delta k) (λ q lq. remainder-unit k q (omega arith) lq) i li
      ∙ times-y-delta k i lk

  -- y times y^(t - 1) is the rest of F(y)
  times-y-top : (m i : ℕ) → suc m ≡ t → i < t → low i < 2 ^ K.width → times_y K.mul t low (delta m) i ≡ low i
  unfolding times_y
  times-y-top m i e l h =
      ap₂ bit_xor (raised-delta m i ∙ delta-off (suc m) i (λ q. omega arith)) (ap (λ x. K.mul x (low i)) (delta-on m (t - 1) (omega arith)) ∙ K.one-mul (low i) h)
      ∙ xor_zero_l (low i)

  remainder-after : (m i : ℕ) → suc m ≡ t → i < t → low i < 2 ^ K.width → remainder K.mul t low (suc m) i ≡ low i
  unfolding remainder
  remainder-after m i e l h =
      times-y-alike (omega arith) (remainder K.mul t low m) (delta m) (λ q lq. remainder-unit m q (omega arith) lq) i l
      ∙ times-y-top m i e l h

  -- the remainder of y^t is the rest of F(y)
  pub remainder-top : 0 < t → Elements K.width t low → Alike t (remainder K.mul t low t) low
  remainder-top ht h i l = let e : suc (t - 1) ≡ t = omega arith in
      ap (λ k. remainder K.mul t low k i) (sym e) ∙ remainder-after (t - 1) i e l (h i l)

  -- a polynomial raised d times is the sum of its coefficients times the remainders, d powers higher
  pub climbed-is : 0 < t → (b : ℕ → ℕ) → Elements K.width t b → (d i : ℕ) → i < t →
      climbed K.mul t low b d i ≡ sum t (λ k. K.mul (b k) (remainder K.mul t low (k + d) i))
  unfolding climbed remainder times
  climbed-is ht b hb zero i l = sym (
      sum-cong t _ _ (λ k lk. ap (λ x. K.mul (b k) (remainder K.mul t low x i)) (add-zero k) ∙ ap (K.mul (b k)) (remainder-unit k i lk l))
      ∙ times-delta K t (λ _. b) 0 i l (hb i l))
  climbed-is ht b hb (suc d) i l =
      times-y-alike ht (climbed K.mul t low b d) (λ q. sum t (λ k. K.mul (b k) (remainder K.mul t low (k + d) q))) (climbed-is ht b hb d) i l
      ∙ times-y-sum t b (λ k. remainder K.mul t low (k + d)) i
      ∙ sum-cong t _ _ (λ k lk. ap (λ x. K.mul (b k) (remainder K.mul t low x i)) (sym (add-suc k d)))

  -- a product is the sum of the coefficients of one factor times the other one, raised
  pub product-climbs : 0 < t → (a b : ℕ → ℕ) → Elements K.width t b → (i : ℕ) → i < t →
      product K.mul t low a b i ≡ sum t (λ j. K.mul (a j) (climbed K.mul t low b j i))
  unfolding product
  product-climbs ht a b hb i l = sum-cong t _ _ (λ j lj.
      sum-cong t _ _ (λ k lk.
      K.mul_assoc (a j) (b k) (remainder K.mul t low (j + k) i)
      ∙ ap (λ x. K.mul (a j) (K.mul (b k) (remainder K.mul t low x i))) (add_comm j k))
      ∙ sym (sum-mul K t (a j) (λ k. K.mul (b k) (remainder K.mul t low (k + j) i)))
      ∙ ap (K.mul (a j)) (sym (climbed-is ht b hb j i l)))

  -- a remainder, raised, is a later remainder
  climbed-remainder : 0 < t → (n d i : ℕ) → i < t → climbed K.mul t low (remainder K.mul t low n) d i ≡ remainder K.mul t low (n + d) i
  unfolding climbed remainder
  climbed-remainder ht n zero i l = ap (λ x. remainder K.mul t low x i) (sym (add-zero n))
  climbed-remainder ht n (suc d) i l =
      times-y-alike ht (climbed K.mul t low (remainder K.mul t low n) d) (remainder K.mul t low (n + d)) (climbed-remainder ht n d) i l
      ∙ ap (λ x. remainder K.mul t low x i) (sym (add-suc n d))

  -- the coefficients of the remainder of y^n times those of y^d, y^(d + 1), .. add up to that of y^(n + d)
  pub remainder-more : 0 < t → (n d i : ℕ) → i < t → sum t (λ k. K.mul (remainder K.mul t low n k) (remainder K.mul t low (k + d) i)) ≡ remainder K.mul t low (n + d) i
  remainder-more ht n d i l =
      sym (climbed-is ht (remainder K.mul t low n) (λ k lk. remainder-element n k) d i l) ∙ climbed-remainder ht n d i l

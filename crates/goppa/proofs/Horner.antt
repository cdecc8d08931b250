-- The value of g by its coefficients from the last to the first. Assumes nothing.
use Rattle.std.proofs.Common.{◌≡◌, ℕ, zero, suc, ◌+◌, ◌-◌, ◌^◌, ◌<◌, ◌≤◌, sym, refl, ap, ◌∙◌, subst, ap₂, add-zero, zero-add, arith}
use lib.Bits.{bit_xor, xor_assoc, xor_comm}
use Rattle.galois.specs.Arith.{Arith}
use Rattle.galois.specs.Gf.{times}
use Rattle.matrix.specs.Matrix.{sum}
use Rattle.matrix.proofs.Sums.{sum-cong, sum-mul, mul-one}
use Rattle.goppa.specs.Checks.{power, value}

sum_first : (n : ℕ) (h : ℕ → ℕ) → sum (suc n) h ≡ bit_xor (h 0) (sum n (λ k. h (suc k)))
unfolding sum
sum_first zero h = xor_comm 0 (h 0)
sum_first (suc n) h = ap (λ x. bit_xor x (h (suc n))) (sum_first n h) ∙ xor_assoc (h 0) (sum n (λ k. h (suc k))) (h (suc n))

-- the part of g from coefficient i on, of which there are d, over x^i
unfoldable pub upper : (m f d : ℕ) → (ℕ → ℕ) → ℕ → ℕ → ℕ
upper m f d g x i = bit_xor (power m f x d) (sum d (λ k. times m f (g (i + k)) (power m f x k)))

upper-none : (m f : ℕ) (g : ℕ → ℕ) (x i : ℕ) → 1 ≡ upper m f 0 g x i
unfolding upper power sum
upper-none m f g x i = refl

upper-all : (m f t : ℕ) (g : ℕ → ℕ) (x : ℕ) → upper m f t g x 0 ≡ value m f t g x
unfolding upper value
upper-all m f t g x = ap (bit_xor (power m f x t)) (sum-cong t _ _ (λ k h. ap (λ j. times m f (g j) (power m f x k)) (zero-add k)))

pub upper-start : (m f t x : ℕ) (g : ℕ → ℕ) → 1 ≡ upper m f (t - t) g x t
upper-start m f t x g = upper-none m f g x t ∙ ap (λ d. upper m f d g x t) (let q : 0 ≡ t - t = omega arith in q)

pub upper-end : (m f t i x r : ℕ) (g : ℕ → ℕ) → i ≤ 0 → r ≡ upper m f (t - i) g x i → r ≡ value m f t g x
upper-end m f t i x r g h e =
    let z : i ≡ 0 = omega arith in
    e ∙ ap (λ j. upper m f (t - j) g x j) z ∙ ap (λ d. upper m f d g x 0) (let q : t - 0 ≡ t = omega arith in q) ∙ upper-all m f t g x

-- in a field whose product is that modulo f
module _ (F : Arith) (m f : ℕ) (wide : F.width ≡ m) (product : (x y : ℕ) → F.mul x y ≡ times m f x y) where
  same : F.mul ≡ times m f
  same = λ i x y. product x y i

  times-xor : (x y z : ℕ) → times m f x (bit_xor y z) ≡ bit_xor (times m f x y) (times m f x z)
  times-xor = subst (λ T. (x y z : ℕ) → T x (bit_xor y z) ≡ bit_xor (T x y) (T x z)) same F.mul-xor

  times-sum : (n s : ℕ) (h : ℕ → ℕ) → times m f s (sum n h) ≡ sum n (λ k. times m f s (h k))
  times-sum = subst (λ T. (n s : ℕ) (h : ℕ → ℕ) → T s (sum n h) ≡ sum n (λ k. T s (h k))) same (sum-mul F)

  times-one : (x : ℕ) → x < 2 ^ m → times m f x 1 ≡ x
  times-one = subst (λ w. (x : ℕ) → x < 2 ^ w → times m f x 1 ≡ x) wide (subst (λ T. (x : ℕ) → x < 2 ^ F.width → T x 1 ≡ x) same (mul-one F))

  turned : (x a p : ℕ) → times m f x (times m f a p) ≡ times m f a (times m f x p)
  turned =
      subst (λ T. (x a p : ℕ) → T x (T a p) ≡ T a (T x p)) same
      (λ x a p. sym (F.mul_assoc x a p) ∙ ap (λ y. F.mul y p) (F.mul_comm x a) ∙ F.mul_assoc a x p)

  upper-more : (d : ℕ) (g : ℕ → ℕ) (x i : ℕ) → g i < 2 ^ m → bit_xor (times m f x (upper m f d g x (i + 1))) (g i) ≡ upper m f (suc d) g x i
  unfolding upper power
  upper-more d g x i small =
      let A = power m f x d in
      let h : ℕ → ℕ = λ k. times m f (g (i + k)) (power m f x k) in
      let h' : ℕ → ℕ = λ k. times m f (g (i + 1 + k)) (power m f x k) in
      ap (λ y. bit_xor y (g i)) (
      times-xor x A (sum d h')
      ∙ ap (bit_xor (times m f x A)) (
      times-sum d x h'
      ∙ sum-cong d _ _ (λ k b. turned x (g (i + 1 + k)) (power m f x k) ∙ ap (λ j. times m f (g j) (times m f x (power m f x k))) (let q : i + 1 + k ≡ i + suc k = omega arith in q))))
      ∙ xor_assoc (times m f x A) (sum d (λ k. h (suc k))) (g i)
      ∙ ap (bit_xor (times m f x A)) (
      xor_comm (sum d (λ k. h (suc k))) (g i)
      ∙ ap (λ y. bit_xor y (sum d (λ k. h (suc k)))) (sym (ap (λ j. times m f (g j) 1) (add-zero i) ∙ times-one (g i) small))
      ∙ sym (sum_first d h))

  pub upper-step : (t i x r a b : ℕ) (g : ℕ → ℕ) → 0 < i → i ≤ t → g (i - 1) < 2 ^ m → r ≡ upper m f (t - i) g x i → a ≡ times m f x r → b ≡ g (i - 1) → bit_xor a b ≡ upper m f (t - (i - 1)) g x (i - 1)
  upper-step t i x r a b g pos le small er ea eb =
      let p : i ≡ i - 1 + 1 = omega arith in
      let q : suc (t - i) ≡ t - (i - 1) = omega arith in
      ap₂ bit_xor (ea ∙ ap (times m f x) (er ∙ ap (upper m f (t - i) g x) p)) eb
      ∙ upper-more (t - i) g x (i - 1) small
      ∙ ap (λ d. upper m f d g x (i - 1)) q

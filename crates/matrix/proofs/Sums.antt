-- Laws of sums and of products of matrices. Assumes nothing.
use Rattle.std.proofs.Common.{◌≡◌, ℕ, zero, suc, ◌^◌, ◌<◌, eqb, ◌≢◌, sym, refl, ap, ◌∙◌, ap₂, inl, inr, arith}
use lib.Bits.{bit_xor, xor_self, xor_zero_l, xor_zero_r}
use Rattle.std.proofs.lemmas.Bool.{cases_eq, cond-true, cond-false, eq-eqb, ne_eqb}
use Rattle.galois.specs.Arith.{Arith}
use Rattle.galois.proofs.Linear.{xor4}
use Rattle.matrix.specs.Matrix.{Mat, sum, delta, times}

pub sum-cong : (n : ℕ) (f g : ℕ → ℕ) → ((k : ℕ) → k < n → f k ≡ g k) → sum n f ≡ sum n g
unfolding sum
sum-cong zero f g h = refl
sum-cong (suc n) f g h = ap₂ bit_xor (sum-cong n f g (λ k l. h k (omega arith))) (h n (omega arith))

pub sum-zero : (n : ℕ) (f : ℕ → ℕ) → ((k : ℕ) → k < n → f k ≡ 0) → sum n f ≡ 0
unfolding sum
sum-zero zero f h = refl
sum-zero (suc n) f h = ap₂ bit_xor (sum-zero n f (λ k l. h k (omega arith))) (h n (omega arith))

pub sum-xor : (n : ℕ) (f g : ℕ → ℕ) → sum n (λ k. bit_xor (f k) (g k)) ≡ bit_xor (sum n f) (sum n g)
unfolding sum
sum-xor zero f g = refl
sum-xor (suc n) f g = ap (λ x. bit_xor x (bit_xor (f n) (g n))) (sum-xor n f g) ∙ xor4 (sum n f) (sum n g) (f n) (g n)

pub sum-swap : (n m : ℕ) (f : ℕ → ℕ → ℕ) → sum n (λ i. sum m (λ j. f i j)) ≡ sum m (λ j. sum n (λ i. f i j))
unfolding sum
sum-swap zero m f = sym (sum-zero m (λ j. 0) (λ k l. refl))
sum-swap (suc n) m f =
    ap (λ x. bit_xor x (sum m (λ j. f n j))) (sum-swap n m f)
    ∙ sym (sum-xor m (λ j. sum n (λ i. f i j)) (λ j. f n j))

-- only the term at i is not zero
pub sum-only : (n i : ℕ) (f : ℕ → ℕ) → i < n → ((k : ℕ) → k < n → k ≢ i → f k ≡ 0) → sum n f ≡ f i
unfolding sum
sum-only zero i f l h = omega arith
sum-only (suc n) i f l h =
    elim (cases_eq i n) [
      | inl e ↦ ap₂ bit_xor (sum-zero n f (λ k l'. h k (omega arith) (λ e'. omega arith))) (ap f (sym e)) ∙ xor_zero_l (f i)
      | inr ne ↦ ap₂ bit_xor (sum-only n i f (omega arith) (λ k l' ne'. h k (omega arith) ne')) (h n (omega arith) (λ e'. ne (sym e'))) ∙ xor_zero_r (f i)
    ]

module _ (F : Arith) where
  pub mul-zero : (x : ℕ) → F.mul x 0 ≡ 0
  mul-zero x = F.mul-xor x 0 0 ∙ xor_self (F.mul x 0)

  pub zero-mul : (x : ℕ) → F.mul 0 x ≡ 0
  zero-mul x = F.mul_comm 0 x ∙ mul-zero x

  pub xor-mul : (x y z : ℕ) → F.mul (bit_xor x y) z ≡ bit_xor (F.mul x z) (F.mul y z)
  xor-mul x y z = F.mul_comm (bit_xor x y) z ∙ F.mul-xor z x y ∙ ap₂ bit_xor (F.mul_comm z x) (F.mul_comm z y)

  pub mul-one : (x : ℕ) → x < 2 ^ F.width → F.mul x 1 ≡ x
  mul-one x h = F.mul_comm x 1 ∙ F.one-mul x h

  pub sum-mul : (n : ℕ) (s : ℕ) (f : ℕ → ℕ) → F.mul s (sum n f) ≡ sum n (λ k. F.mul s (f k))
  unfolding sum
  sum-mul zero s f = mul-zero s
  sum-mul (suc n) s f = F.mul-xor s (sum n f) (f n) ∙ ap (λ x. bit_xor x (F.mul s (f n))) (sum-mul n s f)

  pub mul-sum : (n : ℕ) (s : ℕ) (f : ℕ → ℕ) → F.mul (sum n f) s ≡ sum n (λ k. F.mul (f k) s)
  mul-sum n s f = F.mul_comm (sum n f) s ∙ sum-mul n s f ∙ sum-cong n _ _ (λ k l. F.mul_comm s (f k))

  -- a row times a product
  pub row-assoc : (n : ℕ) (v : ℕ → ℕ) (A : Mat) (w : ℕ → ℕ) →
      sum n (λ k. F.mul (sum n (λ l. F.mul (v l) (A l k))) (w k)) ≡ sum n (λ l. F.mul (v l) (sum n (λ k. F.mul (A l k) (w k))))
  row-assoc n v A w =
      sum-cong n _ _ (λ k h. mul-sum n (w k) (λ l. F.mul (v l) (A l k)) ∙ sum-cong n _ _ (λ l h'. F.mul_assoc (v l) (A l k) (w k)))
      ∙ sum-swap n n (λ k l. F.mul (v l) (F.mul (A l k) (w k)))
      ∙ sum-cong n _ _ (λ l h. sym (sum-mul n (v l) (λ k. F.mul (A l k) (w k))))

  pub times-assoc : (n : ℕ) (A B C : Mat) (i j : ℕ) → times F n (times F n A B) C i j ≡ times F n A (times F n B C) i j
  unfolding times
  times-assoc n A B C i j = row-assoc n (A i) B (λ k. C k j)

pub delta-on : (i j : ℕ) → i ≡ j → delta i j ≡ 1
unfolding delta
delta-on i j e = cond-true (eqb i j) 1 0 (eq-eqb i j e)

pub delta-off : (i j : ℕ) → (i ≡ j → ⊥) → delta i j ≡ 0
unfolding delta
delta-off i j ne = cond-false (eqb i j) 1 0 (ne_eqb i j ne)

pub sum-some : (n : ℕ) (f : ℕ → ℕ) → sum n f ≢ 0 → (k : ℕ) × (k < n) × (f k ≢ 0)
unfolding sum
sum-some zero f h = absurd (h refl)
sum-some (suc n) f h =
    elim (cases_eq (f n) 0) [
      | inl e ↦ let t = sum-some n f (λ z. h (ap₂ bit_xor z e)) in (t.0, omega arith, t.2)
      | inr ne ↦ (n, omega arith, ne)
    ]

module _ (F : Arith) (n : ℕ) where
  pub times-left : (A A' B : Mat) (i j : ℕ) → ((k : ℕ) → k < n → A i k ≡ A' i k) → times F n A B i j ≡ times F n A' B i j
  unfolding times
  times-left A A' B i j h = sum-cong n _ _ (λ k l. ap (λ x. F.mul x (B k j)) (h k l))

  pub times-right : (A B B' : Mat) (i j : ℕ) → ((k : ℕ) → k < n → B k j ≡ B' k j) → times F n A B i j ≡ times F n A B' i j
  unfolding times
  times-right A B B' i j h = sum-cong n _ _ (λ k l. ap (F.mul (A i k)) (h k l))

  pub delta-times : (B : Mat) (i j : ℕ) → i < n → B i j < 2 ^ F.width → times F n delta B i j ≡ B i j
  unfolding times
  delta-times B i j l b =
      sum-only n i (λ k. F.mul (delta i k) (B k j)) l (λ k l' ne. ap (λ x. F.mul x (B k j)) (delta-off i k (λ e. ne (sym e))) ∙ zero-mul F (B k j))
      ∙ ap (λ x. F.mul x (B i j)) (delta-on i i refl)
      ∙ F.one-mul (B i j) b

  pub times-delta : (A : Mat) (i j : ℕ) → j < n → A i j < 2 ^ F.width → times F n A delta i j ≡ A i j
  unfolding times
  times-delta A i j l b =
      sum-only n j (λ k. F.mul (A i k) (delta k j)) l (λ k l' ne. ap (F.mul (A i k)) (delta-off k j ne) ∙ mul-zero F (A i k))
      ∙ ap (F.mul (A i j)) (delta-on j j refl)
      ∙ mul-one F (A i j) b

-- A check matrix that has a systematic form has an inverse block. Assumes nothing.
use Rattle.std.proofs.Common.{◌≡◌, ℕ, ◌+◌, ◌-◌, ◌^◌, ◌<◌, cond, ltb, sym, ap, ◌∙◌, subst, ap₂, inl, inr, arith, pow_pos}
use lib.Bits.{bit_xor, xor_zero_r}
use Rattle.std.proofs.lemmas.Bool.{cases_lt, cond-true, cond-false, lt-ltb, le-ltb}
use Rattle.galois.specs.Arith.{Arith}
use Rattle.galois.specs.Bit.{bits}
use Rattle.matrix.specs.Matrix.{Mat, sum, times, apply, Elements, Els, Dependent}
use Rattle.matrix.specs.Words.{Passes, unit_and, Systematic, Singular}
use Rattle.matrix.proofs.Sums.{sum-cong, sum-zero, mul-zero, delta-times}
use Rattle.matrix.proofs.Checks.{sum-split, unit_left}
use Rattle.matrix.proofs.Inverse.{decided, columns-dependent, flip}
use Rattle.key.specs.declared.sizes.Sizes.{Sizes}
use Rattle.key.specs.Columns.{IsPublic}

module _ (F : Arith) (n k : ℕ) (w : ℕ → ℕ) where
  -- the word of n + k elements that begins with w and ends with zeros
  unfoldable begun : ℕ → ℕ
  begun a = cond (ltb a n) (w a) 0

  begun-in : (a : ℕ) → a < n → begun a ≡ w a
  unfolding begun
  begun-in a h = cond-true (ltb a n) (w a) 0 (lt-ltb a n h)

  begun-past : (a : ℕ) → begun (n + a) ≡ 0
  unfolding begun
  begun-past a = cond-false (ltb (n + a) n) (w (n + a)) 0 (le-ltb (n + a) n (omega arith))

  begun-word : ((a : ℕ) → w a < 2 ^ F.width) → Elements F.width (n + k) begun
  begun-word h a l = elim (cases_lt a n) [
    | inl m ↦ subst (λ x. x < 2 ^ F.width) (sym (begun-in a m)) (h a)
    | inr m ↦ let q : n + (a - n) ≡ a = omega arith in subst (λ x. x < 2 ^ F.width) (sym (begun-past (a - n)) ∙ ap begun q) (pow_pos F.width)
  ]

  -- M times that word, by the first n columns of M
  begun-apply : (M : Mat) (i : ℕ) → apply F (n + k) M begun i ≡ bit_xor (sum n (λ a. F.mul (M i a) (w a))) 0
  unfolding apply
  begun-apply M i =
      sum-split n k (λ a. F.mul (M i a) (begun a))
      ∙ ap₂ bit_xor
      (sum-cong n _ _ (λ a h. ap (F.mul (M i a)) (begun-in a h)))
      (sum-zero k _ (λ a h. ap (F.mul (M i (n + a))) (begun-past a) ∙ mul-zero F (M i (n + a))))

module _ (F : Arith) (n k : ℕ) (H T : Mat) (form : Systematic F n k H T) where
  -- no combination of the first columns vanishes
  columns-free : (w : ℕ → ℕ) → ((a : ℕ) → w a < 2 ^ F.width) → Dependent F n (flip H) w → ⊥
  unfolding times
  columns-free w small d =
      let u = begun F n k w in
      let passes : Passes F n (n + k) H u = λ i hi.
      begun-apply F n k w H i ∙ ap (λ x. bit_xor x 0) (sum-cong n _ _ (λ a h. F.mul_comm (H i a) (w a)) ∙ d.vanish i hi) in
      let zero : apply F (n + k) (unit_and n T) u d.at ≡ 0 = form.complete u (begun-word F n k w small) passes d.at d.at_lt in
      let own : sum n (λ a. F.mul (unit_and n T d.at a) (w a)) ≡ w d.at =
      sum-cong n _ _ (λ a h. ap (λ x. F.mul x (w a)) (unit_left n T d.at a h)) ∙ delta-times F n (λ a _. w a) d.at 0 d.at_lt (small d.at) in
      d.nonzero (sym (xor_zero_r (w d.at)) ∙ ap (λ x. bit_xor x 0) (sym own) ∙ sym (begun-apply F n k w (unit_and n T) d.at) ∙ zero)

  regular : Els F H → Singular F n H → ⊥
  regular els singular = elim (decided F n H els) [
    | inl t ↦ singular.no_left t.0 t.1 t.2
    | inr t ↦ let d = columns-dependent F n H t.0 els t.1 t.2 in columns-free d.0 d.1 d.2
  ]

-- a key whose block has no inverse has no public matrix
pub no-public : (s : Sizes) (H : Mat) → Els bits H → Singular bits s.rows H → (T : Mat) → IsPublic s H T → ⊥
no-public s H els singular T public = regular bits s.rows s.rest H T public.has els singular

-- A mark is flipped, and the others stay. Assumes nothing.
use Rattle.std.proofs.Common.{◌≡◌, ℕ, zero, suc, ◌/◌, ◌%◌, ◌^◌, ◌<◌, List, length, get_or, set, replicate, sym, refl, ap, ◌∙◌, ap₂, inl, inr, arith}
use lib.Bits.{bit_xor, xor_zero_r}
use Rattle.std.proofs.lemmas.Bool.{cases_eq}
use Rattle.std.proofs.lemmas.List.{get_or-set_same, get_or-set_other}
use Rattle.matrix.specs.Matrix.{delta}
use Rattle.matrix.proofs.Sums.{delta-on, delta-off}
use Rattle.bits.specs.Bits.{bit_of, bits_of}
use Rattle.bits.proofs.Packs.{bit-zero}
use Rattle.bits.proofs.Bytes.{bit-xor}
use Rattle.bits.proofs.Units.{power-bit}

place_same : (i k : ℕ) → k / 8 ≡ i / 8 → i % 8 ≡ k % 8 → k ≡ i
place_same i k p q = omega arith

pub mark-flip : (bs : List ℕ) (i k : ℕ) → i / 8 < length bs → bits_of (set bs (i / 8) (bit_xor (get_or bs (i / 8) 0) (2 ^ (i % 8)))) k ≡ bit_xor (bits_of bs k) (delta i k)
unfolding bits_of
mark-flip bs i k l =
    let new = bit_xor (get_or bs (i / 8) 0) (2 ^ (i % 8)) in
    elim (cases_eq (k / 8) (i / 8)) [
      | inl e ↦
          ap (λ x. bit_of (get_or (set bs (i / 8) new) x 0) (k % 8)) e
          ∙ ap (λ x. bit_of x (k % 8)) (get_or-set_same bs (i / 8) new 0 l)
          ∙ bit-xor (get_or bs (i / 8) 0) (2 ^ (i % 8)) (k % 8)
          ∙ ap₂ (λ x y. bit_xor (bit_of (get_or bs x 0) (k % 8)) y) (sym e) (
          power-bit (i % 8) (k % 8) (omega arith) (omega arith)
          ∙ elim (cases_eq (i % 8) (k % 8)) [
            | inl q ↦ delta-on (i % 8) (k % 8) q ∙ sym (delta-on i k (sym (place_same i k e q)))
            | inr q ↦ delta-off (i % 8) (k % 8) q ∙ sym (delta-off i k (λ f. q (ap (λ x. x % 8) f)))
          ])
      | inr ne ↦
          ap (λ x. bit_of x (k % 8)) (get_or-set_other bs (i / 8) (k / 8) new 0 ne)
          ∙ sym (xor_zero_r _)
          ∙ ap (bit_xor (bit_of (get_or bs (k / 8) 0) (k % 8))) (sym (delta-off i k (λ f. ne (ap (λ x. x / 8) (sym f)))))
    ]

get_or-clear : (n k : ℕ) → get_or {A = ℕ} (replicate n 0) k 0 ≡ 0
get_or-clear zero k = refl
get_or-clear (suc n) zero = refl
get_or-clear (suc n) (suc k) = get_or-clear n k

-- a clear map marks nothing
pub mark-clear : (n k : ℕ) → bits_of (replicate n 0) k ≡ 0
unfolding bits_of
mark-clear n k = ap (λ x. bit_of x (k % 8)) (get_or-clear n (k / 8)) ∙ bit-zero (k % 8)

-- A cell made from the result of an operation on elements holds that element.
use mathlib.Core.Path.{◌≡◌, sym, ap, ap₂, ◌∙◌, subst}
use Prim.Native.Nat.{ℕ, ◌%◌, ◌^◌, ◌<◌}
use native.Mathlib.Nat.{mod-eq_of_lt, mod-lt}
use lib.Bits.{bit_xor, xor_lt}
use lib.Pow.{pow_pos}
use Rattle.std.specs.Int.Bits.{bit_and, and_step}
use Rattle.std.proofs.Common.{arith}
use Rattle.std.proofs.lemmas.Nat.{and_mask}
use Rattle.galois.specs.Arith.{Arith}
use Rattle.galois.specs.Bit.{both}
use Rattle.galois.specs.Gf.{times, inverse_of}

-- the number r of a cell is the element y
abbrev pub Holds : (w r y : ℕ) → Type 0
Holds w r y = (r % 2 ^ w ≡ y) × (r < 2 ^ w)

pub low-lt : (w x : ℕ) → x % 2 ^ w < 2 ^ w
low-lt w x = mod-lt x (pow_pos w)

holds : (w r s y : ℕ) → y < 2 ^ w → s ≡ y → r ≡ s % 2 ^ w → Holds w r y
holds w r s y h e q =
    let k : r ≡ y = q ∙ ap (λ (v : ℕ). v % 2 ^ w) e ∙ mod-eq_of_lt h in
    (ap (λ (v : ℕ). v % 2 ^ w) k ∙ mod-eq_of_lt h, subst (λ (v : ℕ). v < 2 ^ w) (sym k) h)

pub sum-cell : (w x y a b s r : ℕ) → a ≡ x % 2 ^ w → b ≡ y % 2 ^ w → s ≡ bit_xor a b % 2 ^ w → r ≡ s % 2 ^ w
    → Holds w r (bit_xor (x % 2 ^ w) (y % 2 ^ w))
sum-cell w x y a b s r ea eb es er =
    let h : bit_xor (x % 2 ^ w) (y % 2 ^ w) < 2 ^ w = xor_lt w (x % 2 ^ w) (y % 2 ^ w) (low-lt w x) (low-lt w y) in
    holds w r s (bit_xor (x % 2 ^ w) (y % 2 ^ w)) h (es ∙ ap (λ (v : ℕ). v % 2 ^ w) (ap₂ bit_xor ea eb) ∙ mod-eq_of_lt h) er

module _ (F : Arith) (w f : ℕ) (wide : F.width ≡ w) where
  pub product-cell : ((x y : ℕ) → F.mul x y ≡ times w f x y)
      → (x y a b s r : ℕ) → a ≡ x % 2 ^ w → b ≡ y % 2 ^ w → s ≡ times w f a b → r ≡ s % 2 ^ w
      → Holds w r (F.mul (x % 2 ^ w) (y % 2 ^ w))
  product-cell law x y a b s r ea eb es er =
      let p = F.mul (x % 2 ^ w) (y % 2 ^ w) in
      let h : p < 2 ^ w = subst (λ (v : ℕ). p < 2 ^ v) wide (F.mul-lt (x % 2 ^ w) (y % 2 ^ w)) in
      holds w r s p h (es ∙ ap₂ (times w f) ea eb ∙ sym (law (x % 2 ^ w) (y % 2 ^ w))) er

  pub inverse-cell : ((x : ℕ) → F.inv x ≡ inverse_of w f x)
      → (x a s r : ℕ) → a ≡ x % 2 ^ w → s ≡ inverse_of w f a → r ≡ s % 2 ^ w → Holds w r (F.inv (x % 2 ^ w))
  inverse-cell law x a s r ea es er =
      let h : F.inv (x % 2 ^ w) < 2 ^ w = subst (λ (v : ℕ). F.inv (x % 2 ^ w) < 2 ^ v) wide (F.inv-lt (x % 2 ^ w)) in
      holds w r s (F.inv (x % 2 ^ w)) h (es ∙ ap (inverse_of w f) ea ∙ sym (law (x % 2 ^ w))) er

-- the product of two bytes as bits
pub bit-product : (x y : ℕ) → bit_and (bit_and x y) 1 ≡ both x y
bit-product x y = omega (arith, and_mask (bit_and x y) 1, and_step x y)

-- it is a bit
pub bit-lt : (x : ℕ) → bit_and x 1 < 2
bit-lt x = omega (arith, and_mask x 1)

-- Multiplication as a sum of powers of one linear map.
use mathlib.Core.Path.{◌≡◌, refl, sym, ap, ap₂, ◌∙◌}
use Prim.Native.Nat.{ℕ, zero, suc, ◌*◌, ◌/◌, ◌%◌, ◌^◌, ◌<◌}
use native.Mathlib.Nat.{mod-lt, zero-mul, one-mul, add-zero, add_comm}
use native.Mathlib.Numerals.{add-one}
use lib.Pow.{pow_pos, split, shr_lt}
use native.Mathlib.Omega.{arith}
use lib.Bits.{bit_xor, xor_assoc, xor_comm, xor_self, xor_zero_r, xor_block, xor_shifted}
use Rattle.galois.specs.Gf.{shifted}

-- exclusive or, regrouped
pub xor4 : (a b c d : ℕ) → bit_xor (bit_xor a b) (bit_xor c d) ≡ bit_xor (bit_xor a c) (bit_xor b d)
xor4 a b c d =
    xor_assoc a b (bit_xor c d) ∙ ap (bit_xor a) (sym (xor_assoc b c d) ∙ ap (λ (x : ℕ). bit_xor x d) (xor_comm b c) ∙ xor_assoc c b d)
    ∙ sym (xor_assoc a c (bit_xor b d))

abbrev pub Linear : (ℕ → ℕ) → Type 0
Linear g = (a b : ℕ) → g (bit_xor a b) ≡ bit_xor (g a) (g b)

pub linear-zero : (g : ℕ → ℕ) → Linear g → g 0 ≡ 0
linear-zero g l = l 0 0 ∙ xor_self (g 0)

-- a digit times a number
pub digit-cases : (P : ℕ → Type 0) → P 0 → P 1 → (c : ℕ) → c < 2 → P c
digit-cases P p0 p1 zero h = p0
digit-cases P p0 p1 (suc zero) h = p1
digit-cases P p0 p1 (suc (suc c)) h = absurd (omega arith)

pub digit-xor : (c a b : ℕ) → c < 2 → c * bit_xor a b ≡ bit_xor (c * a) (c * b)
digit-xor c a b h =
    digit-cases (λ c. c * bit_xor a b ≡ bit_xor (c * a) (c * b))
    (simp zero-mul) (simp one-mul) c h

pub digit-map : (g : ℕ → ℕ) → Linear g → (c a : ℕ) → c < 2 → g (c * a) ≡ c * g a
digit-map g l c a h =
    digit-cases (λ c. g (c * a) ≡ c * g a)
    (simp zero-mul (linear-zero g l)) (simp one-mul) c h

pub two_pos : 0 < 2
two_pos = omega arith

pub digits-times : (c d a : ℕ) → c < 2 → d < 2 → bit_xor c d * a ≡ bit_xor (c * a) (d * a)
digits-times c d a hc hd =
    digit-cases (λ c. bit_xor c d * a ≡ bit_xor (c * a) (d * a))
    (sym (ap (λ (x : ℕ). bit_xor x (d * a)) (zero-mul a)))
    (digit-cases (λ d. bit_xor 1 d * a ≡ bit_xor (1 * a) (d * a))
    (sym (ap (bit_xor (1 * a)) (zero-mul a) ∙ xor_zero_r (1 * a)))
    (zero-mul a ∙ sym (xor_self (1 * a))) d hd)
    c hc

pub twice-xor : (a b : ℕ) → bit_xor a b * 2 ≡ bit_xor (a * 2) (b * 2)
twice-xor a b =
    sym (add-zero (bit_xor a b * 2)) ∙ sym (xor_block 1 a b 0 0 (omega arith) (omega arith))
    ∙ ap₂ bit_xor (add-zero (a * 2)) (add-zero (b * 2))

-- two linear maps that agree at the powers of two agree
pub basis : (g h : ℕ → ℕ) → Linear g → Linear h → (n : ℕ) → ((i : ℕ) → i < n → g (2 ^ i) ≡ h (2 ^ i)) → (x : ℕ) → x < 2 ^ n → g x ≡ h x
basis g h lg lh zero agree x lt =
    let e : x ≡ 0 = omega arith in ap g e ∙ linear-zero g lg ∙ sym (linear-zero h lh) ∙ sym (ap h e)
basis g h lg lh (suc n) agree x lt =
    let c = x / 2 ^ n in
    let r = x % 2 ^ n in
    let cd : c < 2 = shr_lt 1 n (rw (add_comm 1 n, add-one n) lt) in
    let rd : r < 2 ^ n = mod-lt x (pow_pos n) in
    let parts : x ≡ bit_xor (c * 2 ^ n) r = sym (split x n) ∙ sym (xor_shifted c n r rd) in
    ap g parts ∙ lg (c * 2 ^ n) r
    ∙ ap₂ bit_xor
    (digit-map g lg c (2 ^ n) cd ∙ ap (λ (v : ℕ). c * v) (agree n (omega arith)) ∙ sym (digit-map h lh c (2 ^ n) cd))
    (basis g h lg lh n (λ i k. agree i (omega arith)) r rd)
    ∙ sym (lh (c * 2 ^ n) r) ∙ sym (ap h parts)

module _ (z : ℕ → ℕ) (lin : Linear z) where
  pub shifted-linear : (n b : ℕ) → Linear (λ a. shifted z n a b)
  unfolding shifted
  shifted-linear zero b x y = refl
  shifted-linear (suc n) b x y =
      ap₂ bit_xor (digit-xor (b % 2) x y (mod-lt b two_pos)) (ap (λ (v : ℕ). shifted z n v (b / 2)) (lin x y) ∙ shifted-linear n (b / 2) (z x) (z y))
      ∙ xor4 (b % 2 * x) (b % 2 * y) (shifted z n (z x) (b / 2)) (shifted z n (z y) (b / 2))

  pub shifted-z : (n a b : ℕ) → shifted z n (z a) b ≡ z (shifted z n a b)
  unfolding shifted
  shifted-z zero a b = sym (linear-zero z lin)
  shifted-z (suc n) a b =
      ap₂ bit_xor (sym (digit-map z lin (b % 2) a (mod-lt b two_pos))) (shifted-z n (z a) (b / 2))
      ∙ sym (lin (b % 2 * a) (shifted z n (z a) (b / 2)))

  pub shifted-swap : (n k a b c : ℕ) → shifted z n (shifted z k a c) b ≡ shifted z k (shifted z n a b) c
  unfolding shifted
  shifted-swap zero k a b c = sym (linear-zero (λ x. shifted z k x c) (shifted-linear k c))
  shifted-swap (suc n) k a b c =
      ap₂ bit_xor
      (sym (digit-map (λ x. shifted z k x c) (shifted-linear k c) (b % 2) a (mod-lt b two_pos)))
      (ap (λ (v : ℕ). shifted z n v (b / 2)) (sym (shifted-z k a c)) ∙ shifted-swap n k (z a) (b / 2) c)
      ∙ sym (shifted-linear k c (b % 2 * a) (shifted z n (z a) (b / 2)))

-- The product modulo f: a commutative ring, for every f of degree m.
use mathlib.Core.Path.{◌≡◌, refl, sym, ap, ap₂, ◌∙◌, subst}
use Prim.Native.Nat.{ℕ, zero, suc, ◌+◌, ◌-◌, ◌*◌, ◌/◌, ◌%◌, ◌^◌, ◌<◌, ◌≤◌}
use native.Mathlib.Nat.{mod-lt, mod-eq_of_lt, mod-mod, div-eq_of_lt, mul_comm, mul_assoc, add-mul, zero-mul, one-mul, mul-one, add_comm, mod-one, pow-suc}
use native.Mathlib.Numerals.{add-one}
use native.Mathlib.Omega.{arith}
use lib.Arith.{mod-mul}
use lib.Pow.{pow_pos, split, shr_lt, pow-lt}
use lib.Bits.{bit_xor, xor_comm, xor_self, xor_zero_r, xor_lt, xor_shifted, xor_shr, xor_mod}
use Rattle.galois.specs.Gf.{shifted, times_z, times}
use Rattle.galois.proofs.Linear.{xor4, Linear, linear-zero, digit-cases, digits-times, twice-xor, two_pos, shifted-linear, shifted-swap}

pub z-linear : (m f : ℕ) → Linear (times_z m f)
unfolding times_z
z-linear m f a b =
    let c = a * 2 / 2 ^ m in
    let d = b * 2 / 2 ^ m in
    let tops : bit_xor a b * 2 / 2 ^ m % 2 * f ≡ bit_xor (c % 2 * f) (d % 2 * f)
    = ap (λ (x : ℕ). x / 2 ^ m % 2 * f) (twice-xor a b) ∙ ap (λ (x : ℕ). x % 2 * f) (xor_shr (a * 2) (b * 2) m)
    ∙ ap (λ (x : ℕ). x * f) (xor_mod c d 1) ∙ digits-times (c % 2) (d % 2) f (mod-lt c two_pos) (mod-lt d two_pos) in
    ap₂ bit_xor (twice-xor a b) tops ∙ xor4 (a * 2) (b * 2) (c % 2 * f) (d % 2 * f)

-- a number with no high part is small
pub low-only : (m x : ℕ) → x / 2 ^ m ≡ 0 → x < 2 ^ m
low-only m x e =
    let s : 0 * 2 ^ m + x % 2 ^ m ≡ x = subst (λ (q : ℕ). q * 2 ^ m + x % 2 ^ m ≡ x) e (split x m) in
    let r : x % 2 ^ m < 2 ^ m = mod-lt x (pow_pos m) in
    omega (arith, zero-mul (2 ^ m))

pub digit-div : (m f c : ℕ) → f / 2 ^ m ≡ 1 → c < 2 → c * f / 2 ^ m ≡ c
digit-div m f c top h =
    digit-cases (λ c. c * f / 2 ^ m ≡ c) (ap (λ (x : ℕ). x / 2 ^ m) (zero-mul f) ∙ div-eq_of_lt (pow_pos m))
    (ap (λ (x : ℕ). x / 2 ^ m) (one-mul f) ∙ top) c h

pub z-lt : (m f a : ℕ) → f / 2 ^ m ≡ 1 → a < 2 ^ m → times_z m f a < 2 ^ m
unfolding times_z
z-lt m f a top h =
    let c = a * 2 / 2 ^ m in
    let two : a * 2 < 2 ^ (1 + m) = rw (add_comm 1 m, add-one m, pow-suc 2 m) (omega arith) in
    let cd : c < 2 = shr_lt 1 m two in
    low-only m _
    (xor_shr (a * 2) (c % 2 * f) m ∙ ap (bit_xor c) (digit-div m f (c % 2) top (mod-lt c two_pos) ∙ mod-eq_of_lt cd) ∙ xor_self c)

pub z-pow : (m f i : ℕ) → suc i < m → times_z m f (2 ^ i) ≡ 2 ^ suc i
unfolding times_z
z-pow m f i h =
    let e : 2 ^ i * 2 ≡ 2 ^ suc i = sym (pow-suc 2 i) in
    let q : 2 ^ i * 2 / 2 ^ m ≡ 0 = ap (λ (x : ℕ). x / 2 ^ m) e ∙ div-eq_of_lt (pow-lt h) in
    ap₂ bit_xor e (ap (λ (x : ℕ). x % 2 * f) q ∙ zero-mul f) ∙ xor_zero_r (2 ^ suc i)

shift_one : (y c p : ℕ) → y * (p * 2) + c * p ≡ (y * 2 + c) * p
shift_one y c p =
    ap (λ (x : ℕ). y * x + c * p) (mul_comm p 2) ∙ ap (λ (x : ℕ). x + c * p) (sym (mul_assoc y 2 p)) ∙ sym (add-mul (y * 2) c p)

digit_lt : (c i : ℕ) → c < 2 → c * 2 ^ i < 2 ^ suc i
digit_lt c i h =
    let p : 0 < 2 ^ i = pow_pos i in
    rw (pow-suc 2 i)
    (digit-cases (λ c. c * 2 ^ i < 2 ^ i * 2) (rw (zero-mul (2 ^ i)) (omega arith)) (rw (one-mul (2 ^ i)) (omega arith)) c h)

pub ones : (m f n i b : ℕ) → i + n ≤ m → shifted (times_z m f) n (2 ^ i) b ≡ b % 2 ^ n * 2 ^ i
unfolding shifted
ones m f zero i b h = sym (ap (λ (x : ℕ). x * 2 ^ i) (mod-one b) ∙ zero-mul (2 ^ i))
ones m f (suc zero) i b h = xor_zero_r (b % 2 * 2 ^ i)
ones m f (suc (suc n)) i b h =
    let c = b % 2 in
    let y = b / 2 % 2 ^ suc n in
    let cd : c < 2 = mod-lt b two_pos in
    ap (bit_xor (c * 2 ^ i)) (ap (λ (x : ℕ). shifted (times_z m f) (suc n) x (b / 2)) (z-pow m f i (omega arith)) ∙ ones m f (suc n) (suc i) (b / 2) (omega arith))
    ∙ xor_comm (c * 2 ^ i) (y * 2 ^ suc i) ∙ xor_shifted y (suc i) (c * 2 ^ i) (digit_lt c i cd)
    ∙ ap (λ (x : ℕ). y * x + c * 2 ^ i) (pow-suc 2 i) ∙ shift_one y c (2 ^ i)
    ∙ ap (λ (x : ℕ). x * 2 ^ i) (sym (ap (λ (x : ℕ). b % x) (pow-suc 2 (suc n)) ∙ mod-mul b (pow_pos (suc n)) two_pos))

-- times one
pub shifted_one : (m f b : ℕ) → shifted (times_z m f) m 1 b ≡ b % 2 ^ m
shifted_one m f b = ones m f m 0 b (omega arith) ∙ mul-one (b % 2 ^ m)

shifted_none : (z : ℕ → ℕ) (n a : ℕ) → shifted z n a 0 ≡ 0
unfolding shifted
shifted_none z zero a = refl
shifted_none z (suc n) a = ap₂ bit_xor (zero-mul a) (shifted_none z n (z a))

shifted-two : (z : ℕ → ℕ) (n a : ℕ) → shifted z (suc (suc n)) a 2 ≡ z a
unfolding shifted
shifted-two z n a =
    ap₂ bit_xor (zero-mul a) (ap₂ bit_xor (one-mul (z a)) (shifted_none z n (z (z a))) ∙ xor_zero_r (z a))

-- times z: shifted by one, less f where that has the term z^m
pub times-two : (m f a : ℕ) → 1 < m → times m f a 2 ≡ times_z m f (a % 2 ^ m)
unfolding times
times-two m f a h =
    let q : m ≡ suc (suc (m - 2)) = omega arith in
    ap (λ (n : ℕ). shifted (times_z m f) n (a % 2 ^ m) 2) q ∙ shifted-two (times_z m f) (m - 2) (a % 2 ^ m)

module _ (m f : ℕ) (top : f / 2 ^ m ≡ 1) where
  pub shifted-lt : (n a b : ℕ) → a < 2 ^ m → shifted (times_z m f) n a b < 2 ^ m
  unfolding shifted
  shifted-lt zero a b h = pow_pos m
  shifted-lt (suc n) a b h =
      xor_lt m (b % 2 * a) (shifted (times_z m f) n (times_z m f a) (b / 2))
      (digit-cases (λ c. c * a < 2 ^ m) (rw (zero-mul a) (pow_pos m)) (rw (one-mul a) h) (b % 2) (mod-lt b two_pos))
      (shifted-lt n (times_z m f a) (b / 2) (z-lt m f a top h))

  pub times-lt : (a b : ℕ) → times m f a b < 2 ^ m
  unfolding times
  times-lt a b = shifted-lt m (a % 2 ^ m) b (mod-lt a (pow_pos m))

  -- the product is one map after another, applied to 1
  both : (a b : ℕ) → times m f a b ≡ shifted (times_z m f) m (shifted (times_z m f) m 1 a) b
  unfolding times
  both a b = ap (λ (x : ℕ). shifted (times_z m f) m x b) (sym (shifted_one m f a))

  pub times-comm : (a b : ℕ) → times m f a b ≡ times m f b a
  times-comm a b = both a b ∙ shifted-swap (times_z m f) (z-linear m f) m m 1 b a ∙ sym (both b a)

  pub times-low : (a b : ℕ) → times m f (a % 2 ^ m) b ≡ times m f a b
  unfolding times
  times-low a b = ap (λ (x : ℕ). shifted (times_z m f) m x b) (mod-mod a (2 ^ m))

  on-low : (a b c : ℕ) → times m f (times m f a b) c ≡ shifted (times_z m f) m (times m f a b) c
  on-low a b c = (unfold times in ap (λ (x : ℕ). shifted (times_z m f) m x c) (mod-eq_of_lt (times-lt a b)))

  pub times-assoc : (a b c : ℕ) → times m f (times m f a b) c ≡ times m f a (times m f b c)
  times-assoc a b c =
      on-low a b c ∙ ap (λ (x : ℕ). shifted (times_z m f) m x c) (times-comm a b ∙ both b a)
      ∙ shifted-swap (times_z m f) (z-linear m f) m m (shifted (times_z m f) m 1 b) c a
      ∙ ap (λ (x : ℕ). shifted (times_z m f) m x a) (sym (both b c)) ∙ sym (on-low b c a) ∙ times-comm (times m f b c) a

  pub times-one : 0 < m → (a : ℕ) → times m f a 1 ≡ a % 2 ^ m
  unfolding times
  times-one pos a = times-comm a 1 ∙ ap (λ (x : ℕ). shifted (times_z m f) m x a) (mod-eq_of_lt (pow-lt pos)) ∙ shifted_one m f a

  pub times-linear : (b : ℕ) → Linear (λ a. times m f a b)
  unfolding times
  times-linear b x y =
      ap (λ (v : ℕ). shifted (times_z m f) m v b) (xor_mod x y m) ∙ shifted-linear (times_z m f) (z-linear m f) m b (x % 2 ^ m) (y % 2 ^ m)

  pub times_zero : (a : ℕ) → times m f 0 a ≡ 0
  times_zero a = linear-zero (λ x. times m f x a) (times-linear a)

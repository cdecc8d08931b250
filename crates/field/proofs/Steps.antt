-- What the code computes in one step.
use mathlib.Core.Path.{◌≡◌, refl, sym, ap, ap₂, ◌∙◌}
use Prim.Native.Nat.{ℕ, suc, ◌+◌, ◌-◌, ◌*◌, ◌/◌, ◌%◌, ◌^◌, ◌<◌, ◌≤◌}
use native.Mathlib.Nat.{mod-eq_of_lt, mod-lt, one-mul, zero-mul}
use native.Mathlib.Omega.{arith}
use lib.Pow.{pow_mono}
use lib.Bits.{bit_xor, bit_and, and_mask, and_zero_r, xor_assoc, xor_zero_r}
use Rattle.galois.proofs.Linear.{digit-cases, two_pos}
use Rattle.galois.specs.Gf.{times_z, shifted, times, chain, inverse}

pub narrow-lt : (m x : ℕ) → m ≤ 15 → x < 2 ^ m → x < 32768
narrow-lt m x h lt = let p : 2 ^ m ≤ 2 ^ 15 = pow_mono h in omega arith

pub step-z : (m f x : ℕ) → m ≤ 15 → x < 2 ^ m
    → (d : ℕ) → d ≡ bit_and (x * 2 % 65536 / 2 ^ m) 1 * f → bit_xor (x * 2 % 65536) d ≡ times_z m f x
unfolding times_z
step-z m f x h lt d ed =
    let s : x < 32768 = narrow-lt m x h lt in
    let e : x * 2 % 65536 ≡ x * 2 = mod-eq_of_lt (omega arith) in
    ap₂ bit_xor e (ed ∙ ap (λ (v : ℕ). bit_and (v / 2 ^ m) 1 * f) e ∙ ap (λ (v : ℕ). v * f) (and_mask (x * 2 / 2 ^ m) 1))

pub mask_is : (m a : ℕ) → m ≤ 15 → bit_and a (1 * 2 ^ m % 65536 - 1) ≡ a % 2 ^ m
mask_is m a h =
    let p : 2 ^ m ≤ 2 ^ 15 = pow_mono h in
    let e : 1 * 2 ^ m % 65536 ≡ 2 ^ m = ap (λ (v : ℕ). v % 65536) (one-mul (2 ^ m)) ∙ mod-eq_of_lt (omega arith) in
    ap (λ (v : ℕ). bit_and a (v - 1)) e ∙ and_mask a m

-- a bit of y times x
pub digit-is : (y x : ℕ) → bit_and y 1 * x ≡ y % 2 * x
digit-is y x = ap (λ (v : ℕ). v * x) (and_mask y 1)

pub digit-below : (p y x : ℕ) → x < p → bit_and y 1 * x < p
digit-below p y x h =
    rw (digit-is y x) (digit-cases (λ c. c * x < p) (rw (zero-mul x) (omega arith)) (rw (one-mul x) h) (y % 2) (mod-lt y two_pos))

pub step_sum : (z : ℕ → ℕ) (m n s x y d x' t : ℕ) → n < m → bit_xor s (shifted z (m - n) x y) ≡ t → d ≡ bit_and y 1 * x → x' ≡ z x
    → bit_xor (bit_xor s d) (shifted z (m - (n + 1)) x' (y / 2)) ≡ t
unfolding shifted
step_sum z m n s x y d x' t h e ed ex =
    let q : m - n ≡ suc (m - (n + 1)) = omega arith in
    xor_assoc s d (shifted z (m - (n + 1)) x' (y / 2))
    ∙ ap (bit_xor s) (ap₂ bit_xor (ed ∙ digit-is y x) (ap (λ (v : ℕ). shifted z (m - (n + 1)) v (y / 2)) ex) ∙ ap (λ (k : ℕ). shifted z k x y) (sym q))
    ∙ e

pub step_end : (z : ℕ → ℕ) (m n s x y t : ℕ) → m ≤ n → bit_xor s (shifted z (m - n) x y) ≡ t → s ≡ t
unfolding shifted
step_end z m n s x y t h e =
    let q : m - n ≡ 0 = omega arith in
    sym (ap (λ (k : ℕ). bit_xor s (shifted z k x y)) q ∙ xor_zero_r s) ∙ e

pub step-chain : (m f n a r s : ℕ) → 1 ≤ n → r ≡ chain m f (n - 1) a → s ≡ times m f r r → times m f a s ≡ chain m f (n + 1 - 1) a
unfolding chain
step-chain m f n a r s h e es =
    let q : n + 1 - 1 ≡ suc (n - 1) = omega arith in
    ap (times m f a) (es ∙ ap₂ (times m f) e e) ∙ sym (ap (λ (k : ℕ). chain m f k a) q)

pub chain-start : (m f a : ℕ) → 1 ≡ chain m f 0 a
unfolding chain
chain-start m f a = refl

pub chain-end : (m f n a r : ℕ) → 1 ≤ n → n ≤ m → m ≤ n → r ≡ chain m f (n - 1) a → times m f r r ≡ inverse m f a
unfolding inverse
chain-end m f n a r h h₁ h₂ e =
    let q : n ≡ m = omega arith in
    let e' : r ≡ chain m f (m - 1) a = e ∙ ap (λ (k : ℕ). chain m f (k - 1) a) q in
    ap₂ (times m f) e' e'

pub mask-digit : (c x : ℕ) → c < 2 → x < 65536 → bit_and x ((0 + (65536 - c)) % 65536) ≡ c * x
mask-digit c x h lt =
    digit-cases (λ c. bit_and x ((0 + (65536 - c)) % 65536) ≡ c * x)
    (and_zero_r x ∙ sym (zero-mul x)) (and_mask x 16 ∙ mod-eq_of_lt lt ∙ sym (one-mul x)) c h

-- The laws of every field, from the two computed tests of its reducing polynomial.
use mathlib.Core.Path.{◌≡◌, refl, sym, ap, ap₂, ◌∙◌}
use mathlib.Core.Bool.{Bool, true, false, cond}
use Prim.Native.Nat.{ℕ, zero, suc, ◌/◌, ◌%◌, ◌^◌, ◌<◌}
use native.Mathlib.Nat.{mod-eq_of_lt, zero-mod}
use lib.Dec.{T, eqb, eqb-suc-zero}
use lib.Pow.{pow_pos, pow-lt}
use lib.Bits.{bit_xor, xor_assoc, xor_comm, xor_self, xor_zero_r, xor_lt}
use Rattle.galois.specs.Gf.{times, inverse, inverse_of}
use Rattle.galois.specs.Arith.{Arith}
use Rattle.galois.proofs.Ring.{times-lt, times-comm, times-low, times-assoc, times-one, times-linear}
use Rattle.galois.proofs.Fermat.{fixes, only_bits, nonzero-inverse, inverse-lt}

eqb-zero : (x : ℕ) → (x ≡ 0 → ⊥) → eqb x 0 ≡ false
eqb-zero zero h = absurd (h refl)
eqb-zero (suc x) h = eqb-suc-zero x

pub inverse-of-zero : (m f : ℕ) → inverse_of m f 0 ≡ 0
inverse-of-zero m f = ap (λ (v : ℕ). cond (eqb v 0) 0 (inverse m f 0)) (zero-mod (2 ^ m))

pub inverse-of-nonzero : (m f a : ℕ) → (a % 2 ^ m ≡ 0 → ⊥) → inverse_of m f a ≡ inverse m f a
inverse-of-nonzero m f a h = ap (λ v. cond v 0 (inverse m f a)) (eqb-zero (a % 2 ^ m) h)

cond-lt : (b : Bool) (x p : ℕ) → 0 < p → x < p → cond b 0 x < p
cond-lt true x p h k = h
cond-lt false x p h k = k

pub inverse-of-lt : (m f : ℕ) → 0 < m → f / 2 ^ m ≡ 1 → (a : ℕ) → inverse_of m f a < 2 ^ m
inverse-of-lt m f pos top a = cond-lt (eqb (a % 2 ^ m) 0) (inverse m f a) (2 ^ m) (pow_pos m) (inverse-lt m f top pos a)

-- the field of polynomials modulo f, where f passes the two tests
abbrev pub galois : (m f : ℕ) → 0 < m → f / 2 ^ m ≡ 1 → T (fixes m f) → T (only_bits m f) → Arith
galois m f pos top t1 t2 = record {
  width = m;
  mul = times m f;
  inv = inverse_of m f;
  sum_lt = xor_lt m;
  sum_assoc = xor_assoc;
  sum_comm = xor_comm;
  sum-zero = xor_zero_r;
  sum_self = xor_self;
  one-lt = pow-lt pos;
  mul-lt = times-lt m f top;
  mul_low = times-low m f top;
  mul_assoc = times-assoc m f top;
  mul_comm = times-comm m f top;
  mul-xor = λ x y z.
      times-comm m f top x (bit_xor y z) ∙ times-linear m f top x y z ∙ ap₂ bit_xor (times-comm m f top y x) (times-comm m f top z x);
  one-mul = λ x h. times-comm m f top 1 x ∙ times-one m f top pos x ∙ mod-eq_of_lt h;
  inv-lt = inverse-of-lt m f pos top;
  inv-zero = inverse-of-zero m f;
  inv-mul = λ x h ne. let ne' : x % 2 ^ m ≡ 0 → ⊥ = λ e. ne (sym (mod-eq_of_lt h) ∙ e) in
      times-comm m f top (inverse_of m f x) x
      ∙ ap (times m f x) (inverse-of-nonzero m f x ne')
      ∙ nonzero-inverse m f top pos t1 t2 x h ne;
}

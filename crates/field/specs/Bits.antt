-- The bits are the polynomials modulo z + 1: facts that the laws of `Bit` cite. Proved here, nothing to believe.
use Rattle.std.specs.Prelude.{◌≡◌, refl, cond, ℕ, ◌*◌, ◌%◌, ◌<◌, min, eqb}
use Rattle.std.proofs.Common.{sym, ◌∙◌, mod-lt, zero-mul, one-mul, arith}
use Rattle.std.specs.Int.Bits.{xor_zero_r}
use Rattle.galois.specs.Bit.{both}
use Rattle.galois.specs.Gf.{shifted, times_z, times, chain, inverse, inverse_of}
use Rattle.galois.proofs.Linear.{digit-cases, two_pos}

-- a product of digits is the lesser of them
digits-min : (c d : ℕ) → c < 2 → d < 2 → min c d ≡ d * c
digits-min c d hc hd =
    digit-cases (λ d. min c d ≡ d * c) (omega (arith, zero-mul c)) (omega (arith, one-mul c)) d hd

-- the product of bits is the one modulo z + 1
pub both-times : (x y : ℕ) → both x y ≡ times 1 3 x y
unfolding times shifted
both-times x y =
    digits-min (x % 2) (y % 2) (mod-lt x two_pos) (mod-lt y two_pos) ∙ sym (xor_zero_r (y % 2 * (x % 2)))

-- and so is the inverse
pub bit-inverse : (x : ℕ) → x % 2 ≡ inverse_of 1 3 x
unfolding inverse chain times shifted times_z
bit-inverse x = digit-cases (λ c. c ≡ cond (eqb c 0) 0 1) refl refl (x % 2) (mod-lt x two_pos)

-- The bits as a field. Assumes nothing.
use Rattle.std.specs.Prelude.{ℕ, ◌+◌, ◌%◌, ◌<◌, min, ◌≡◌, refl}
use Rattle.std.proofs.Common.{arith}
use Rattle.std.specs.Int.Bits.{bit_xor, xor_add_and, xor_assoc, xor_self, xor_zero_r}
use Rattle.std.proofs.lemmas.Nat.{xor_comm, xor_lt}
use Rattle.galois.specs.Arith.{Arith}

-- the product of two bits
abbrev pub both : ℕ → ℕ → ℕ
both x y = min (x % 2) (y % 2)

-- the exclusive or is odd as the sum is
pub xor-odd : (x y : ℕ) → bit_xor x y % 2 ≡ (x + y) % 2
xor-odd x y = omega (arith, xor_add_and x y)

-- the exclusive or of two bits
pub xor-bits : (x y : ℕ) → x < 2 → y < 2 → bit_xor x y ≡ (x + y) % 2
xor-bits x y hx hy = omega (arith, xor_add_and x y, xor_lt 1 x y hx hy)

-- the product distributes
pub both-xor : (x y z : ℕ) → both x (bit_xor y z) ≡ bit_xor (both x y) (both x z)
both-xor x y z = omega (arith, xor-odd y z, xor-bits (both x y) (both x z) (omega arith) (omega arith))

-- the field of the bits 0 and 1
abbrev pub bits : Arith
bits = record {
  width = 1;
  mul = both;
  inv = λ x. x % 2;
  sum_lt = xor_lt 1;
  sum_assoc = xor_assoc;
  sum_comm = xor_comm;
  sum-zero = xor_zero_r;
  sum_self = xor_self;
  one-lt = omega arith;
  mul-lt = λ x y. omega arith;
  mul_low = λ x y. omega arith;
  inv-lt = λ x. omega arith;
  mul_assoc = λ x y z. omega arith;
  mul_comm = λ x y. omega arith;
  mul-xor = both-xor;
  one-mul = λ x h. omega arith;
  inv-zero = refl;
  inv-mul = λ x h nz. omega arith;
}

-- What a field of numbers is. Assumes nothing.
use Rattle.std.specs.Prelude.{ℕ, ◌%◌, ◌^◌, ◌<◌, ◌≡◌, ◌≢◌}
use Rattle.std.specs.Int.Bits.{bit_xor}

-- A field whose elements are the numbers below 2 ^ width, bit b being the coefficient of z^b.
-- The sum is exclusive or. The product takes the elements in the low bits of its factors,
-- so most laws hold of all numbers.
pub record Arith : Type 0 where
  pub width : ℕ
  pub mul : ℕ → ℕ → ℕ
  pub inv : ℕ → ℕ
  -- the sum: closed, associative, commutative, 0 is neutral, x + x = 0
  pub sum_lt : (x y : ℕ) → x < 2 ^ width → y < 2 ^ width → bit_xor x y < 2 ^ width
  pub sum_assoc : (x y z : ℕ) → bit_xor (bit_xor x y) z ≡ bit_xor x (bit_xor y z)
  pub sum_comm : (x y : ℕ) → bit_xor x y ≡ bit_xor y x
  pub sum-zero : (x : ℕ) → bit_xor x 0 ≡ x
  pub sum_self : (x : ℕ) → bit_xor x x ≡ 0
  -- 0 and 1 are elements, and differ
  pub one-lt : 1 < 2 ^ width
  -- the product: closed, on low bits, associative, commutative, distributive, 1 is neutral
  pub mul-lt : (x y : ℕ) → mul x y < 2 ^ width
  pub mul_low : (x y : ℕ) → mul (x % 2 ^ width) y ≡ mul x y
  pub mul_assoc : (x y z : ℕ) → mul (mul x y) z ≡ mul x (mul y z)
  pub mul_comm : (x y : ℕ) → mul x y ≡ mul y x
  pub mul-xor : (x y z : ℕ) → mul x (bit_xor y z) ≡ bit_xor (mul x y) (mul x z)
  pub one-mul : (x : ℕ) → x < 2 ^ width → mul 1 x ≡ x
  -- the inverse: 0 of 0; else times the element it is 1
  pub inv-lt : (x : ℕ) → inv x < 2 ^ width
  pub inv-zero : inv 0 ≡ 0
  pub inv-mul : (x : ℕ) → x < 2 ^ width → x ≢ 0 → mul (inv x) x ≡ 1

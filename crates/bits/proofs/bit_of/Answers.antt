use Rattle.std.proofs.Common.{◌^◌, ◌<◌, ◌≤◌, arith, pow_mono}
use native.Mathlib.Nat.{div-eq_of_lt}
use Rattle.bits.specs.Bits.{bit_of}
use Rattle.bits.proofs.bit_of.Goals as goal

pub returns-else-k-lt8 : goal.returns-else-k-lt8
unfolding bit_of
returns-else-k-lt8 c =
    let eight : 8 ≤ c.args.k = omega arith in
    let high : 2 ^ 8 ≤ 2 ^ c.args.k = pow_mono eight in
    let low : c.args.b < 2 ^ c.args.k = omega arith in
    record { value = rw div-eq_of_lt; small = omega arith }

use mathlib.Core.Path.{◌≡◌}
use Prim.Native.Nat.{◌-◌, ◌^◌, ◌<◌}
use lib.Bits.{bit_xor}
use Rattle.galois.specs.Gf.{shifted, times_z, times}
use Rattle.field.proofs.Reduction.product.Given as goal

-- what is summed so far and what is still to come make the product
abbrev pub invariant-loop : goal.invariant-loop
invariant-loop l =
    (l.x < 2 ^ l.self.m) × (l.sum < 2 ^ l.self.m)
    × (bit_xor l.sum (shifted (times_z l.self.m l.self.f) (l.self.m - l.counter) l.x l.y) ≡ times l.self.m l.self.f l.a l.b)

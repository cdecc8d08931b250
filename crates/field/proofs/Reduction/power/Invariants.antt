use mathlib.Core.Path.{◌≡◌}
use Prim.Native.Nat.{◌-◌}
use Rattle.galois.specs.Gf.{chain}
use Rattle.field.proofs.Reduction.power.Given as goal

abbrev pub invariant-loop : goal.invariant-loop
invariant-loop l = l.r ≡ chain l.self.m l.self.f (l.counter - 1) l.a

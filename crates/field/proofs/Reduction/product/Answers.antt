use mathlib.Core.Path.{sym, ap₂, subst}
use Prim.Native.Nat.{ℕ, ◌<◌, ◌^◌}
use native.Mathlib.Nat.{mod-lt, sub-zero}
use lib.Bits.{xor_lt}
use lib.Pow.{pow_pos}
use Rattle.galois.specs.Gf.{shifted, times_z, times}
use Rattle.field.proofs.Steps.{digit-below, step_sum, step_end}
use Rattle.field.proofs.Reduction.product.Goals as goal

pub loop-init : goal.loop-init
unfolding times
loop-init c =
    let e = c.low-x.ensures in (
      subst (λ (v : ℕ). v < 2 ^ c.args.self.m) (sym e) (mod-lt c.args.a (pow_pos c.args.self.m)),
      pow_pos c.args.self.m,
      ap₂ (λ (k v : ℕ). shifted (times_z c.args.self.m c.args.self.f) k v c.args.b) (sub-zero c.args.self.m) e,
    )

pub times_z-x-requires : goal.times_z-x-requires
times_z-x-requires c = record { element = c.loop.invariant.0 }

pub loop-preserved : goal.loop-preserved
loop-preserved c = (
  c.times_z-x.ensures.element,
  xor_lt c.args.self.m _ _ c.loop.invariant.1 (subst (λ (v : ℕ). v < 2 ^ c.args.self.m) (sym c.masked-sum.ensures) (digit-below (2 ^ c.args.self.m) c.loop.y c.loop.x c.loop.invariant.0)),
  step_sum (times_z c.args.self.m c.args.self.f) c.args.self.m c.loop.counter c.loop.sum c.loop.x c.loop.y c.masked-sum.result c.times_z-x.result _ c.loop-test.true c.loop.invariant.2 c.masked-sum.ensures c.times_z-x.ensures.value,
)

pub returns : goal.returns
returns c =
    step_end (times_z c.args.self.m c.args.self.f) c.args.self.m c.loop.counter c.loop.sum c.loop.x c.loop.y _ c.loop-test.false c.loop.invariant.2

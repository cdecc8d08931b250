use mathlib.Core.Path.{◌∙◌}
use native.Mathlib.Omega.{arith}
use Rattle.field.proofs.Steps.{chain-start, step-chain, chain-end}
use Rattle.field.proofs.Reduction.power.Goals as goal

pub loop-init : goal.loop-init
loop-init c = chain-start c.args.self.m c.args.self.f c.args.a

pub loop-preserved : goal.loop-preserved
loop-preserved c =
    c.product-r.ensures ∙ step-chain c.args.self.m c.args.self.f c.loop.counter c.args.a c.loop.r _ (omega arith) c.loop.invariant c.product-s.ensures

pub returns : goal.returns
returns c =
    c.product.ensures ∙ chain-end c.args.self.m c.args.self.f c.loop.counter c.args.a c.loop.r (omega arith) (omega arith) (omega arith) c.loop.invariant

use mathlib.Core.Path.{sym, subst}
use Prim.Native.Nat.{ℕ, ◌<◌, ◌^◌}
use Rattle.field.proofs.Steps.{step-z}
use Rattle.galois.proofs.Ring.{z-lt}
use Rattle.field.proofs.Reduction.times_z.Goals as goal

pub returns : goal.returns
returns c =
    let e = step-z c.args.self.m c.args.self.f c.args.x c.args.self.narrow c.requires.element c.masked.result c.masked.ensures in
    record {
      value = e;
      element = subst (λ (v : ℕ). v < 2 ^ c.args.self.m) (sym e) (z-lt c.args.self.m c.args.self.f c.args.x c.args.self.top c.requires.element);
    }

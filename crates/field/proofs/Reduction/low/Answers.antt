use Rattle.field.proofs.Steps.{mask_is}
use Rattle.field.proofs.Reduction.low.Goals as goal

pub returns : goal.returns
returns c = mask_is c.args.self.m c.args.a c.args.self.narrow

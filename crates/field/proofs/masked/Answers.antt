use borrow.Author.Rules.{rules}
use Rattle.field.proofs.Steps.{mask-digit}
use Rattle.field.proofs.masked.Goals as goal

pub returns : goal.returns
returns c = mask-digit c.args.bit c.args.x c.requires (search rules)

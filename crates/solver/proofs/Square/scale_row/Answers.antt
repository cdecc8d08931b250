use Rattle.std.proofs.Common.{refl}
use Rattle.solver.proofs.Rows.{row-scaled}
use Rattle.solver.proofs.Square.scale_row.Goals as goal

pub returns-clause-made : goal.returns-clause-made
returns-clause-made g c = row-scaled c.args.self.now c.args.i _ refl refl c.requires.within c.scale.auto.row c.args.s c.scale.ensures.made

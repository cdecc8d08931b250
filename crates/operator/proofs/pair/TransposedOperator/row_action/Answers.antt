use Rattle.operator.specs.Actions.{transposed}
use Rattle.operator.proofs.Chains.{columns-as-rows}
use Rattle.operator.proofs.pair.TransposedOperator.row_action.Goals as goal

pub returns : goal.returns
returns g c = columns-as-rows {m = transposed (g.O.Operator.matrix c.args.self.now.of)} c.column_action.ensures

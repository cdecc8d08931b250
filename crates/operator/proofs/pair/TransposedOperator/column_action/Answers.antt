use Rattle.operator.proofs.Chains.{rows-as-columns}
use Rattle.operator.proofs.pair.TransposedOperator.column_action.Goals as goal

pub returns : goal.returns
returns g c = rows-as-columns c.row_action.ensures

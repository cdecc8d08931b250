use Rattle.operator.proofs.Chains.{pair-rows}
use Rattle.operator.proofs.pair.PairOperator.row_action.Goals as goal

pub returns : goal.returns
returns g c = pair-rows _ _ _ _ _ _ _ _ c.product_action.ensures

use Rattle.operator.proofs.Chains.{chain-columns}
use Rattle.operator.proofs.pair.chain.Goals as goal

pub returns : goal.returns
returns g c = record {
  acts = chain-columns c.requires.one c.column_action.ensures c.in_ok-column_action.was c.column_action-2.ensures;
  cleared = c.drop-guard-2.ensures;
}

use Rattle.session.proofs.Products.{rows-chained}
use Rattle.session.proofs.Product.row.Goals as goal

pub returns-clause-second : goal.returns-clause-second
returns-clause-second g c =
    let p = c.args.self.now in
    rows-chained p.n _ _ (g.O.Operator.matrix p.left.now) (g.K.Key.checks p.key.now) c.args.v.now _ _ _ _ p.order p.rows c.unblind.ensures.written c.row_action.ensures c.in_ok-row_action.was

use Rattle.std.proofs.Common.{ap}
use Rattle.key.specs.declared.sizes.Sizes.{Sizes}
use Rattle.audit.proofs.Columns.{column-made}
use Rattle.audit.proofs.make_column.Goals as goal

pub returns : goal.returns
returns g c =
    let key = c.args.key.now in
    let some = g.K.Key.bounded key in
    column-made (g.K.Key.sizes key).rows c.set-n.result.rows _ c.args.c (g.K.Key.checks key) _ c.args.inverse.now _ c.args.own.now _ c.column_action.result
    (ap (λ (z : Sizes). z.rows) c.set-n.ensures) (some.0, some.1) c.requires.inverse (g.K.Key.elements key) c.new-stored.ensures c.check_column.ensures c.column_action.ensures c.in-Ok.is

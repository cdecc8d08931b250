use Rattle.field.proofs.Cells.{sum-cell}
use Rattle.field.proofs.Field.plus.Goals as goal

pub returns : goal.returns
returns g c =
    let f = g.Self.Field in
    let h = sum-cell f.WIDTH (f.number c.args.x) (f.number c.args.y) c.get.result c.get-2.result c.add.result (f.number c.of.result) c.get.ensures c.get-2.ensures c.add.ensures c.of.ensures in
    record { element = h.0; clean = h.1 }

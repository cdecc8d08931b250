use Rattle.field.proofs.Cells.{product-cell}
use Rattle.field.proofs.Field.times.Goals as goal

pub returns : goal.returns
returns g c =
    let f = g.Self.Field in
    let l = g.met.Self.Field.laws in
    let h = product-cell f.arith f.WIDTH f.REDUCER l.wide l.product (f.number c.args.x) (f.number c.args.y) c.get.result c.get-2.result c.mul.result (f.number c.of.result) c.get.ensures c.get-2.ensures c.mul.ensures c.of.ensures in
    record { element = h.0; clean = h.1 }

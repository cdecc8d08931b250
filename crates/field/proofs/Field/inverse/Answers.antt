use Rattle.field.proofs.Cells.{inverse-cell}
use Rattle.field.proofs.Field.inverse.Goals as goal

pub returns : goal.returns
returns g c =
    let f = g.Self.Field in
    let l = g.met.Self.Field.laws in
    let h = inverse-cell f.arith f.WIDTH f.REDUCER l.wide l.inversion (f.number c.args.x) c.get.result c.invert.result (f.number c.of.result) c.get.ensures c.invert.ensures c.of.ensures in
    record { element = h.0; clean = h.1 }

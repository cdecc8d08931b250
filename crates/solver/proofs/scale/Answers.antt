use Rattle.std.proofs.Common.{◌∙◌, ap, arith}
use Rattle.solver.specs.Cells.{element}
use Rattle.solver.proofs.Grid.{entry_read}
use Rattle.solver.proofs.Rows.{done-more}
use Rattle.solver.proofs.scale.Goals as goal

pub loop-x-preserved : goal.loop-x-preserved
loop-x-preserved g c =
    let f = g.F.Field in
    let read = entry_read f.WIDTH f.number c.loop-x.row c.loop-x.x-index c.x-item.result (omega arith) ∙ c.loop-x.invariant.rest c.loop-x.x-index (omega arith) in
    done-more f.WIDTH f.number _ c.args.row.now c.loop-x.row c.loop-x.x-index c.times.result (omega arith)
    (c.times.ensures.element ∙ ap (f.arith.mul (element f.WIDTH f.number c.args.s)) read) c.times.ensures.clean c.loop-x.invariant

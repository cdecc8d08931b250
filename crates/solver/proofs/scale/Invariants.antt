use Rattle.solver.specs.Cells.{element, entry}
use Rattle.solver.proofs.Rows.{Done}
use Rattle.solver.proofs.scale.Given as goal

abbrev pub invariant-loop-x : goal.invariant-loop-x
invariant-loop-x g l =
    let f = g.F.Field in
    Done f.WIDTH f.number (λ k. f.arith.mul (element f.WIDTH f.number l.s) (entry f.WIDTH f.number l.initial.row k)) l.initial.row l.row l.x-index

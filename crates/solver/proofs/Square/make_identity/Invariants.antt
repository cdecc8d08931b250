use Rattle.solver.specs.Cells.{entries, Clean}
use Rattle.solver.proofs.Loops.{UnitBelow}
use Rattle.solver.proofs.Square.make_identity.Given as goal

abbrev pub invariant-loop-i : goal.invariant-loop-i
invariant-loop-i g l = let f = g.F.Field in UnitBelow l.n (entries f.WIDTH f.number l.n l.cells) l.i × Clean f.WIDTH f.number l.cells

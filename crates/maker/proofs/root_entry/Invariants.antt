use Rattle.std.proofs.Common.{◌≡◌, length, get_or}
use Rattle.galois.specs.Gf.{times}
use Rattle.matrix.specs.Matrix.{sum}
use Rattle.solver.specs.Cells.{entries}
use Rattle.maker.proofs.root_entry.Given as goal

abbrev pub invariant-loop-i : goal.invariant-loop-i
invariant-loop-i g l =
    let f = g.F.Field in
    l.sum ≡ sum l.i (λ i. times f.WIDTH f.REDUCER (get_or l.power i 0) (entries f.WIDTH f.number (length l.power) l.inverse i l.k))

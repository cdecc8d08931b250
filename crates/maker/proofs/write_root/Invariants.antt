use Rattle.std.proofs.Common.{◌≡◌, ℕ, ◌<◌, length, get_or}
use Rattle.galois.specs.Gf.{times}
use Rattle.matrix.specs.Matrix.{sum}
use Rattle.goppa.specs.Loading.{entry_in}
use Rattle.solver.specs.Cells.{entries}
use Rattle.maker.proofs.write_root.Given as goal

abbrev pub invariant-loop-k : goal.invariant-loop-k
invariant-loop-k g l =
    let f = g.F.Field in
    (k : ℕ) → k < l.k → entry_in l.out k ≡ sum (length l.power) (λ i. times f.WIDTH f.REDUCER (get_or l.power i 0) (entries f.WIDTH f.number (length l.power) l.inverse i k))

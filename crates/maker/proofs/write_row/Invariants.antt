use Rattle.std.proofs.Common.{◌≡◌, ℕ, ◌%◌, ◌^◌, ◌<◌, get_or}
use Rattle.solver.specs.Cells.{entry}
use Rattle.maker.proofs.write_row.Given as goal

abbrev pub invariant-loop-i : goal.invariant-loop-i
invariant-loop-i g l =
    let f = g.F.Field in
    (k : ℕ) → k < l.i → entry f.WIDTH f.number l.row k ≡ get_or l.elements k 0 % 2 ^ f.WIDTH

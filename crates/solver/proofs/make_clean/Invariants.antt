use Rattle.std.proofs.Common.{◌≡◌, ℕ, ◌^◌, ◌<◌, map, get_or}
use Rattle.solver.specs.Cells.{element}
use Rattle.solver.proofs.make_clean.Given as goal

abbrev pub invariant-loop-x : goal.invariant-loop-x
invariant-loop-x g l =
    let f = g.F.Field in
    (map (element f.WIDTH f.number) l.cells ≡ map (element f.WIDTH f.number) l.initial.cells)
    × ((k : ℕ) (d : _) → k < l.x-index → f.number (get_or l.cells k d) < 2 ^ f.WIDTH)

use Rattle.std.proofs.Common.{◌+◌, ◌*◌, ◌<◌, length, sym, ap, ◌∙◌, arith, rules}
use Rattle.std.proofs.lemmas.Nat.{mul-add-lt}
use Rattle.solver.specs.Cells.{element}
use Rattle.solver.proofs.Grid.{entries-read}
use Rattle.solver.proofs.Square.get.Goals as goal

pub offset_bounds-self-i : goal.offset_bounds-self-i
offset_bounds-self-i g c =
    let s = c.args.self.now in
    let q : c.args.i * s.order + c.args.j < length s.cells.now = omega (arith, mul-add-lt c.args.i s.order c.args.j s.order c.requires.within.0 c.requires.within.1, s.square) in
    search rules

pub returns : goal.returns
returns g c =
    let f = g.F.Field in
    let s = c.args.self.now in
    ap (element f.WIDTH f.number) (sym c.index-self-i.is) ∙ entries-read f.WIDTH f.number s.order s.cells.now c.args.i c.args.j c.requires.within.0 c.requires.within.1 c.index-self-i.result s.square c.index-self-i.is

use Rattle.std.proofs.Common.{◌≡◌, ◌≤◌, tests, sym, ◌∙◌, arith, rules}
use Rattle.matrix.proofs.Elim.{next, kept, blank}
use Rattle.solver.specs.Cells.{element}
use Rattle.solver.specs.Squares.{matrix}
use Rattle.solver.proofs.Grid.{entries-elements}
use Rattle.solver.proofs.Joins.{cleared_both}
use Rattle.solver.proofs.Square.clear_column.Goals.{then-i-r+then-not-is_zero, else-i-r, else-i-r-via-then-i-r+else-not-is_zero, else-i-r-via-else-i-r}
use Rattle.solver.proofs.Square.clear_column.Goals as goal

pub loop-i-preserved : goal.loop-i-preserved
loop-i-preserved g c =
    let f = g.F.Field in
    let t = c.loop-i.self in
    let u = c.loop-i.beside in
    let n = t.order in
    let i = c.loop-i.i in
    let col = c.args.c in
    let r = c.args.r in
    let s = element f.WIDTH f.number c.get-s.result in
    elim c.if-i-r.branch [
      | then-i-r+then-not-is_zero w ↦
          record {
            place = search rules;
            state = λ M h. rw (w.self-is, w.beside-is)
                (cleared_both f.arith n M (matrix t) (matrix w.add_row.new.self) (matrix u) (matrix w.add_row-then-not-is_zero.new.self) col r i s
                (omega arith) w.add_row.ensures.place.0 (entries-elements f.WIDTH f.number f.arith n t.cells.now g.met.F.Field.laws.wide i col)
                (search rules) w.if-i-r.true c.get-s.ensures w.add_row.ensures.made w.add_row-then-not-is_zero.ensures.made (c.loop-i.invariant.state M h));
          }
      | else-i-r w ↦ record {
        place = search rules;
        state = λ M h. elim w.else-i-r.branch [
          | else-i-r-via-then-i-r+else-not-is_zero v ↦
              let z : s ≡ 0 = search (rules, tests) in
              rw (w.self-is, w.beside-is) (blank f.arith n M _ _ col r i (c.loop-i.invariant.state M h) (sym c.get-s.ensures ∙ z))
          | else-i-r-via-else-i-r v ↦ rw (w.self-is, w.beside-is) (kept f.arith n M _ _ col r i (c.loop-i.invariant.state M h) v.if-i-r.false)
        ];
      }
    ]

pub returns-clause-state : goal.returns-clause-state
returns-clause-state g c M h =
    let t = c.loop-i.self in
    let all : t.order ≤ c.loop-i.i = omega arith in
    next g.F.Field.arith t.order M _ _ c.args.c c.args.r c.loop-i.i all (c.loop-i.invariant.state M h)

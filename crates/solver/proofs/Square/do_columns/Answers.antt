use Rattle.std.proofs.Common.{◌≡◌, ap, ◌∙◌, arith, rules}
use Rattle.matrix.proofs.Elim.{pass}
use Rattle.solver.specs.Cells.{element}
use Rattle.solver.specs.Squares.{matrix}
use Rattle.solver.proofs.Grid.{entries-elements}
use Rattle.solver.proofs.Joins.{pivot-taken}
use Rattle.solver.proofs.Square.do_columns.Goals.{in-Some, in_default}
use Rattle.solver.proofs.Square.do_columns.Goals as goal

pub loop-c-preserved : goal.loop-c-preserved
loop-c-preserved g c =
    let f = g.F.Field in
    let t = c.loop-c.self in
    let n = t.order in
    let col = c.loop-c.c in
    let r = c.loop-c.r in
    elim c.match-find_pivot.branch [
      | in-Some w ↦
          let s = w.swap_rows.new.self in
          record {
            low = omega (arith, w.r-is, c.loop-c.invariant.low);
            place = search rules;
            state = λ M h. rw (w.self-is, w.beside-is, w.r-is)
                (w.clear_column.ensures.state M
                (pivot-taken f.arith n M (matrix t) (matrix s) (matrix w.scale_row.new.self) (matrix c.loop-c.beside) (matrix w.swap_rows-in-Some.new.self) (matrix w.scale_row-in-Some.new.self)
                col r w.in-Some.p (element f.WIDTH f.number w.inverse-v.result)
                (omega arith) (omega arith) (omega arith) (omega arith) (omega arith) w.in-Some.ensures.0 w.in-Some.ensures.1 w.in-Some.ensures.2
                (entries-elements f.WIDTH f.number f.arith s.order s.cells.now g.met.F.Field.laws.wide r col)
                w.swap_rows.ensures.made w.swap_rows-in-Some.ensures.made (w.inverse-v.ensures.element ∙ ap f.arith.inv w.get.ensures) w.scale_row.ensures.made w.scale_row-in-Some.ensures.made
                (c.loop-c.invariant.state M h)));
          }
      | in_default w ↦ record {
        low = omega (arith, w.r-is, c.loop-c.invariant.low);
        place = search rules;
        state = λ M h. rw (w.self-is, w.beside-is, w.r-is) (pass f.arith n M _ _ col r (c.loop-c.invariant.state M h) w.in_default.ensures);
      }
    ]

pub returns-clause-state : goal.returns-clause-state
returns-clause-state g c M h =
    let all : c.args.self.now.order ≡ c.loop-c.c = omega arith in
    rw all (c.loop-c.invariant.state M h)

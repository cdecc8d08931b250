use Rattle.std.proofs.Common.{◌<◌, length, ◌∙◌, ap, ap₂, arith, below_more}
use lib.Bits.{bit_xor}
use Rattle.std.proofs.lemmas.List.{length-set}
use Rattle.solver.specs.Cells.{element}
use Rattle.solver.proofs.Grid.{entry_read, entry_set, entry_other}
use Rattle.solver.proofs.Rows.{done-more}
use Rattle.solver.proofs.add_scaled.Goals as goal

pub loop-k-preserved : goal.loop-k-preserved
loop-k-preserved g c =
    let f = g.F.Field in
    let k = c.loop-k.k in
    let x = c.index-other-k.result in
    let room : k < length c.loop-k.copy = omega (arith, c.loop-k.invariant.long) in
    let read = ap (element f.WIDTH f.number) c.index-other-k.is ∙ entry_read f.WIDTH f.number c.args.other.now k x (omega arith) in
    record {
      long = length-set _ _ _ ∙ c.loop-k.invariant.long;
      made = below_more _ _ (λ j h. entry_other f.WIDTH f.number c.loop-k.copy k j x (omega arith) ∙ c.loop-k.invariant.made j h)
          (entry_set f.WIDTH f.number c.loop-k.copy k x room ∙ read);
    }

pub loop-j-preserved : goal.loop-j-preserved
loop-j-preserved g c =
    let f = g.F.Field in
    let j = c.loop-j.j in
    let s = element f.WIDTH f.number c.args.s in
    let room : j < length c.loop-k.copy = omega (arith, c.loop-j.invariant.long) in
    let x = entry_read f.WIDTH f.number c.loop-j.row j c.index-row-j.result (omega arith) ∙ c.loop-j.invariant.done.rest j (omega arith) in
    let y = entry_read f.WIDTH f.number c.loop-k.copy j c.index-copy-j.result room in
    record {
      long = c.loop-j.invariant.long;
      done = done-more f.WIDTH f.number _ c.args.row.now c.loop-j.row j c.plus.result (omega arith)
          (c.plus.ensures.element ∙ ap₂ bit_xor x (c.times.ensures.element ∙ ap (f.arith.mul s) y)) c.plus.ensures.clean c.loop-j.invariant.done;
    }

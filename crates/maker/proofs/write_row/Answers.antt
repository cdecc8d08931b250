use Rattle.std.proofs.Common.{◌∙◌, ap, ◌%◌, ◌^◌, below_more, arith}
use Rattle.solver.proofs.Grid.{entry_set, entry_other, low-low}
use Rattle.maker.proofs.write_row.Goals as goal

pub loop-i-preserved : goal.loop-i-preserved
loop-i-preserved g c =
    let f = g.F.Field in
    let w = f.WIDTH in
    let r = c.loop-i.row in
    let i = c.loop-i.i in
    below_more _ _
    (λ j l. entry_other w f.number r i j c.of.result (omega arith) ∙ c.loop-i.invariant j l)
    (entry_set w f.number r i c.of.result (omega arith) ∙ ap (λ v. v % 2 ^ w) c.of.ensures ∙ low-low w _)

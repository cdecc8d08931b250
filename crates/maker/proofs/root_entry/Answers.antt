use Rattle.std.proofs.Common.{sym, ap, ◌∙◌, ap₂, length, get_or, arith}
use lib.Bits.{bit_xor}
use Rattle.galois.specs.Gf.{times}
use Rattle.solver.specs.Cells.{entries}
use Rattle.solver.proofs.Grid.{entries-read}
use Rattle.maker.proofs.Sums.{sum-none, sum-more}
use Rattle.maker.proofs.root_entry.Goals as goal

pub loop-i-init : goal.loop-i-init
loop-i-init g c = sum-none _

pub loop-i-preserved : goal.loop-i-preserved
loop-i-preserved g c =
    let f = g.F.Field in
    let t = length c.args.power.now in
    ap₂ bit_xor c.loop-i.invariant (
    c.mul-sum.ensures
    ∙ ap (times f.WIDTH f.REDUCER (get_or c.args.power.now c.loop-i.i 0))
    (c.get.ensures ∙ entries-read f.WIDTH f.number t c.args.inverse.now c.loop-i.i c.args.k (omega arith) (omega arith) c.index-inverse-i.result c.requires.whole c.index-inverse-i.is))
    ∙ sym (sum-more c.loop-i.i (λ i. times f.WIDTH f.REDUCER (get_or c.args.power.now i 0) (entries f.WIDTH f.number t c.args.inverse.now i c.args.k)))

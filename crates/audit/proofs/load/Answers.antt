use Rattle.std.proofs.Common.{sym, ap, ◌∙◌, arith}
use Rattle.bits.specs.Bits.{bits_of, pack}
use Rattle.host.specs.Frames.{bit_table, with_cells}
use Rattle.host.proofs.Tables.{column-heard}
use Rattle.audit.proofs.load.Goals as goal

pub loop-j-preserved : goal.loop-j-preserved
loop-j-preserved g c i k hi hk =
    let n = c.args.n in
    let j = c.loop-j.j in
    let H = g.K.Key.checks c.args.key.now in
    let table = c.loop-j.table in
    ap (λ t. bit_table n t i k)
    (c.keep_column.ensures ∙ ap (λ z. with_cells n j n (bits_of z) table) (c.check_column.ensures ∙ ap (λ m. pack m (λ a. H a j)) (sym c.requires.size)))
    ∙ column-heard n j H table (g.K.Key.elements c.args.key.now) (omega arith) c.loop-j-test.true c.loop-j.invariant i k hi hk

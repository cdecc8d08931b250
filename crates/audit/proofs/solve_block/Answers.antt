use Rattle.std.proofs.Common.{ap}
use Rattle.key.specs.declared.sizes.Sizes.{Sizes}
use Rattle.audit.proofs.Blocks.{block-inverted}
use Rattle.audit.proofs.solve_block.Goals as goal

pub returns : goal.returns
returns g c =
    let key = c.args.key.now in
    block-inverted c.set-n.result.rows (g.K.Key.sizes key).rows (g.K.Key.checks key) c.load.new.table c.solve_bits-solved.new.second c.pack_rows.new.rows c.solve_bits-solved.result
    (ap (λ (z : Sizes). z.rows) c.set-n.ensures) c.load.ensures c.solve_bits-solved.ensures c.pack_rows.ensures

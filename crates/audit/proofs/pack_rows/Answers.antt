use Rattle.audit.proofs.Blocks.{rows-packed}
use Rattle.audit.proofs.pack_rows.Goals as goal

pub returns : goal.returns
returns c = rows-packed c.args.n c.bytes_for.result c.args.cells.now c.args.rows.now _ c.bytes_for.ensures c.requires.room c.write_bits.ensures

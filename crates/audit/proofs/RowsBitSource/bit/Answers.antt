use Rattle.std.proofs.Common.{◌%◌, ap, ◌∙◌}
use Rattle.audit.proofs.Blocks.{bit-read}
use Rattle.audit.proofs.RowsBitSource.bit.Goals as goal

pub returns-then-j-self-clause-value : goal.returns-then-j-self-clause-value
returns-then-j-self-clause-value c =
    let s = c.args.self.now in
    ap (λ x. x % 2) c.cell.ensures ∙ bit-read s.n c.args.i c.bytes_for-width.result s.cells.now c.bytes_for-width.ensures c.if-j-self.true

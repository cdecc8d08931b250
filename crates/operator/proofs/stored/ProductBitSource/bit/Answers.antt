use Rattle.std.proofs.Common.{sym, ◌∙◌}
use Rattle.bits.specs.Bits.{bytes_for, bits_of, of_rows}
use Rattle.operator.proofs.Products.{dot-entry, pad-entry}
use Rattle.operator.proofs.stored.ProductBitSource.bit.Goals as goal

pub returns : goal.returns
returns c =
    let s = c.args.self.now in
    let n = s.m.n in
    let i = c.args.i in
    record {
      value = c.dot.ensures.value
          ∙ dot-entry n i c.bytes_for.result s.m.rows.now s.v.now c.bytes_for.ensures
          ∙ sym (pad-entry n (of_rows (bytes_for n) s.m.rows.now) (bits_of s.v.now) i c.if-i-n.false);
      small = c.dot.ensures.small;
    }

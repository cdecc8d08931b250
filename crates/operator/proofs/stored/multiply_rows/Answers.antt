use Rattle.std.proofs.Common.{length, ◌∙◌}
use Rattle.std.proofs.lemmas.Bool.{eq-eqb}
use Rattle.bits.specs.Bits.{bytes_for, bits_of, of_rows}
use Rattle.operator.proofs.Products.{pack-padded}
use Rattle.operator.proofs.stored.multiply_rows.Goals as goal

pub returns : goal.returns
returns c =
    let m = c.args.m in
    c.write_bits.ensures ∙ rw (eq-eqb (length c.args.out.now) (bytes_for m.n) c.requires) (pack-padded m.n (of_rows (bytes_for m.n) m.rows.now) (bits_of c.args.v.now))

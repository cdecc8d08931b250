use Rattle.std.proofs.Common.{eqb, length, ap, ◌∙◌, arith}
use Rattle.std.proofs.lemmas.Bool.{cond-true, eq-eqb}
use Rattle.bits.specs.Bits.{bytes_for}
use Rattle.bits.proofs.Packs.{pack-cong}
use Rattle.block.specs.Lanes.{parity_of}
use Rattle.block.proofs.LentWords.write_block.Goals as goal

pub returns : goal.returns
returns c =
    let count = c.args.block.count in
    let out = c.args.out.now in
    c.write_bits.ensures
    ∙ cond-true (eqb (length out) (bytes_for count)) _ _ (eq-eqb (length out) (bytes_for count) c.requires)
    ∙ pack-cong count _ _ (λ k h. ap parity_of (c.cross_columns.ensures k (omega arith)))

use Rattle.std.proofs.Common.{ltb, [], ◌∷◌, length, ap, ◌∙◌}
use Rattle.galois.specs.Bit.{bits}
use Rattle.matrix.specs.Matrix.{apply_row}
use Rattle.bits.specs.Bits.{bits_of}
use Rattle.bits.proofs.Packs.{length-pack}
use Rattle.session.specs.declared.fault.SessionFault.TheVariants.{Wrong}
use Rattle.session.specs.Table.{line, first, refused_by}
use Rattle.session.proofs.Products.{wrong-is}
use Rattle.session.proofs.open.check_row.Goals as goal

pub returns-clause-result : goal.returns-clause-result
returns-clause-result g c =
    let p = c.args.product.now in
    c.check_unit.ensures
    ∙ ap (λ j. refused_by (first (line (ltb j p.n) (Wrong j) ∷ []))) (wrong-is p.n (g.O.Operator.matrix p.left.now) (g.K.Key.checks p.key.now) c.args.s.now _ c.row.ensures.second c.args.i)

pub returns-clause-long : goal.returns-clause-long
returns-clause-long g c =
    let p = c.args.product.now in
    ap length c.row.ensures.first ∙ length-pack p.n (apply_row bits p.n (g.O.Operator.matrix p.left.now) (bits_of c.args.s.now))

use Rattle.std.proofs.Common.{◌≡◌, length, refl, ap, ◌∙◌}
use Rattle.galois.specs.Bit.{bits}
use Rattle.matrix.specs.Matrix.{times}
use Rattle.bits.specs.Bits.{pack}
use Rattle.bits.proofs.Packs.{length-pack}
use Rattle.session.proofs.Products.{columns-chained, block-column}
use Rattle.session.proofs.Product.column.Goals as goal

pub returns : goal.returns
returns g c =
    let p = c.args.self.now in
    let R = g.O.Operator.matrix p.left.now in
    let H = g.K.Key.checks p.key.now in
    let written : c.column_action.new.out ≡ pack p.n (λ i. times bits p.n R H i c.args.j) =
    columns-chained p.n _ _ R H c.args.j _ _ _ _ _ _ (g.K.Key.elements p.key.now) p.order p.rows c.column.ensures c.column_action.ensures c.in_ok-column.was c.in_ok-column_action.was in
    record {
      result = refl;
      written = written;
      block = block-column p.n R H c.args.j _ written;
      long = ap length written ∙ length-pack p.n (λ i. times bits p.n R H i c.args.j);
    }

use Rattle.std.proofs.Common.{◌≡◌, ◌+◌, ap, ◌∙◌}
use Rattle.galois.specs.Bit.{bits}
use Rattle.matrix.specs.Matrix.{times}
use Rattle.bits.specs.Bits.{bytes_for, of_rows, pack}
use Rattle.key.specs.declared.sizes.Sizes.{Sizes}
use Rattle.session.proofs.Products.{public-is}
use Rattle.session.proofs.ready.make_column.Goals as goal

pub returns : goal.returns
returns g c =
    let key = c.args.key.now in
    let n = (g.K.Key.sizes key).rows in
    let k = c.set-n.result.rows in
    let made = c.new-stored.result in
    let e = c.new-product.ensures in
    let is : c.column.new.self.b.now ≡ pack n (λ i. times bits n (of_rows (bytes_for made.n) made.rows.now) (g.K.Key.checks key) i (k + c.args.c)) =
    c.column.ensures.written
    ∙ (λ t. pack (e.n t) (λ i. times bits (e.n t) (of_rows (bytes_for (e.left t).n) (e.left t).rows.now) (g.K.Key.checks (e.key t)) i (k + c.args.c))) in (
      public-is n k _ (g.K.Key.checks key) _ c.args.inverse.now _ c.args.c ((g.K.Key.bounded key).0, (g.K.Key.bounded key).1) c.requires.inverse (ap (λ (z : Sizes). z.rows) c.set-n.ensures) c.new-stored.ensures is,
      c.column.ensures.long ∙ ap bytes_for e.n,
    )

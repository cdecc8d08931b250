use Rattle.std.proofs.Common.{ltb, not, [], ◌∷◌, Err, sym, ap, ◌∙◌}
use Rattle.std.proofs.lemmas.Result.{err_from_is_err_and}
use Rattle.session.specs.declared.fault.SessionFault.TheVariants.{Zero, Nonzero}
use Rattle.session.specs.Table.{line, first, refused_by, blinded, leading, nonzero}
use Rattle.session.proofs.Products.{leading-is, nonzero-is}
use Rattle.session.proofs.Steps.{refused-before, refused-after}
use Rattle.session.proofs.open.check_combination.Goals as goal

pub returns-in_err-check_some : goal.returns-in_err-check_some
returns-in_err-check_some g c =
    let p = c.args.product.now in
    let v = c.args.v.now in
    let e = err_from_is_err_and c.from_residual.result c.from_residual.ensures.1 in
    let B = blinded p.n (g.O.Operator.matrix p.left.now) (g.K.Key.checks p.key.now) in
    e.1 ∙ ap (λ x. Err x) e.2
    ∙ refused-before (line (not (ltb (leading p.n v) p.n)) Zero ∷ []) (line (ltb (nonzero p.n B v) p.n) (Nonzero (nonzero p.n B v)) ∷ []) c.in_err-check_some.field-0.0
    (sym c.in_err-check_some.was ∙ c.check_some.ensures ∙ ap (λ j. refused_by (first (line (not (ltb j p.n)) Zero ∷ []))) (leading-is p.n v))

pub returns : goal.returns
returns g c =
    let p = c.args.product.now in
    let v = c.args.v.now in
    let R = g.O.Operator.matrix p.left.now in
    let H = g.K.Key.checks p.key.now in
    let B = blinded p.n R H in
    c.check_none.ensures
    ∙ ap (λ j. refused_by (first (line (ltb j p.n) (Nonzero j) ∷ []))) (nonzero-is p.n R H v _ c.row.ensures.second)
    ∙ refused-after (line (not (ltb (leading p.n v) p.n)) Zero ∷ []) (line (ltb (nonzero p.n B v) p.n) (Nonzero (nonzero p.n B v)) ∷ []) c.in_ok-check_some.field-0
    (sym c.in_ok-check_some.was ∙ c.check_some.ensures ∙ ap (λ j. refused_by (first (line (not (ltb j p.n)) Zero ∷ []))) (leading-is p.n v))

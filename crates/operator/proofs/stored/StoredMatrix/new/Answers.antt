use Rattle.std.proofs.Common.{sym, ap, ◌∙◌}
use Rattle.operator.proofs.Made.{made-fitting, made-refused}
use Rattle.operator.proofs.stored.StoredMatrix.new.Goals as goal
use Rattle.operator.proofs.stored.StoredMatrix.new.Goals.{in-Ok, in-Err}

pub returns : goal.returns
returns c =
    let n = c.args.n in
    let xs = c.args.rows.now in
    let m = c.match-check.result.0 in
    let ys = c.match-check.result.1.0.now in
    elim c.match-check.branch [
      | in-Ok w ↦ made-fitting n xs m ys (sym c.check.ensures ∙ w.in-Ok.is) (ap (λ s. s.0) w.result-is) (ap (λ s. s.1.0.now) w.result-is)
      | in-Err w ↦ made-refused n xs m ys w.in-Err.field-0 (sym c.check.ensures ∙ w.in-Err.is) (ap (λ s. s.0) w.result-is) (ap (λ s. s.1.0.now) w.result-is)
    ]

use Rattle.std.proofs.Common.{◌≤◌, length, sym, ap, ◌∙◌, arith}
use Rattle.session.proofs.Answering.{answered-unfit, refusal-fits, answered-granted, answered-refused}
use Rattle.session.proofs.state.Open.answer.Goals as goal

pub returns-in-Err-clause-done : goal.returns-in-Err-clause-done
returns-in-Err-clause-done g c = answered-unfit _ _ _ _ _ _ _ _ c.in-Err.fault (sym c.in-Err.is ∙ c.check_memory-fits.ensures)

pub returns-in-Ok-clause-done : goal.returns-in-Ok-clause-done
returns-in-Ok-clause-done g c =
    let p = c.new-product.ensures in
    answered-granted _ _ _ _ _ _ _ _ c.in_default.field-0 (sym c.in_default.is ∙ c.check_memory-fits.ensures) _ _ _ p.n (ap (g.O.Operator.matrix) p.left) (ap (g.K.Key.checks) p.key) _ _ _ _ c.in-Ok.length c.in-Ok.ensures.done

pub refuse-requires : goal.refuse-requires
refuse-requires g c =
    let room : 4 ≤ length c.args.reply.now = refusal-fits _ _ _ _ _ _ c.in_default.field-0 (sym c.in_default.is ∙ c.check_memory-fits.ensures) (g.K.Key.bounded c.args.key.now).0 in
    omega arith

pub returns-clause-done : goal.returns-clause-done
returns-clause-done g c =
    let p = c.new-product.ensures in
    let r = c.refuse.ensures in
    answered-refused _ _ _ _ _ _ _ _ c.in_default.field-0 (sym c.in_default.is ∙ c.check_memory-fits.ensures) _ _ _ p.n (ap (g.O.Operator.matrix) p.left) (ap (g.K.Key.checks) p.key) _ _ _ _ c.in-Err-step.fault _ _
    c.in-Err-step.ensures.done r.fault r.long r.bytes

use Rattle.std.proofs.Common.{◌≡◌, [], ◌∷◌, ◌++◌, sym, ap, ◌∙◌, subst}
use Rattle.session.specs.Table.{secret}
use Rattle.runs.specs.Runs.{Card, card, asked_by}
use Rattle.runs.specs.Reached.{Reached, Goes}
use Rattle.runs.proofs.turn.Goals as goal

pub returns-in-Ok-clause-reached : goal.returns-in-Ok-clause-reached
returns-in-Ok-clause-reached g c m s before =
    let store = g.S.Sink.store in
    let k : Card = card (secret (g.K.Key.sizes c.args.key.now) (g.K.Key.checks c.args.key.now) (g.O.Operator.order c.args.blinding.now) (g.O.Operator.matrix c.args.blinding.now)) m s in
    let went = subst (λ r. Goes k (asked_by c.args.call.now) c.args.run.stage c.args.inverse.now (store c.args.sink.now) r c.make-stage.result.stage c.make-stage.new.inverse (store c.make-stage.new.sink)) c.in-Ok.is (c.make-stage.ensures.goes m s) in
    let items : c.push_reserved.new.self.items ≡ c.args.run.events.items ++ c.in-Ok.event ∷ [] = c.push_reserved.ensures.items ∙ ap (λ x. x ++ c.in-Ok.event ∷ []) c.reserve.ensures.items in
    subst (λ es. Reached k es c.make-stage.result.stage c.make-stage.new.inverse (store c.make-stage.new.sink)) (sym items) (went.1 c.args.run.events.items before)

pub returns-in-Ok-clause-grows : goal.returns-in-Ok-clause-grows
returns-in-Ok-clause-grows g c =
    let store = g.S.Sink.store in
    let k : Card = card (secret (g.K.Key.sizes c.args.key.now) (g.K.Key.checks c.args.key.now) (g.O.Operator.order c.args.blinding.now) (g.O.Operator.matrix c.args.blinding.now)) [] (store c.args.sink.now) in
    let went = subst (λ r. Goes k (asked_by c.args.call.now) c.args.run.stage c.args.inverse.now (store c.args.sink.now) r c.make-stage.result.stage c.make-stage.new.inverse (store c.make-stage.new.sink)) c.in-Ok.is (c.make-stage.ensures.goes [] (store c.args.sink.now)) in
    (c.in-Ok.event ∷ [], c.push_reserved.ensures.items ∙ ap (λ x. x ++ c.in-Ok.event ∷ []) c.reserve.ensures.items, ap (λ x. x ∷ []) went.0)

pub returns-in_default-event-clause-reached : goal.returns-in_default-event-clause-reached
returns-in_default-event-clause-reached g c m s before =
    let store = g.S.Sink.store in
    let k : Card = card (secret (g.K.Key.sizes c.args.key.now) (g.K.Key.checks c.args.key.now) (g.O.Operator.order c.args.blinding.now) (g.O.Operator.matrix c.args.blinding.now)) m s in
    let went = subst (λ r. Goes k (asked_by c.args.call.now) c.args.run.stage c.args.inverse.now (store c.args.sink.now) r c.make-stage.result.stage c.make-stage.new.inverse (store c.make-stage.new.sink)) c.in_default-event.is (c.make-stage.ensures.goes m s) in
    rw (c.reserve.ensures.items, went.0, went.1, went.2) before

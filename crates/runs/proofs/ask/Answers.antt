use Rattle.std.proofs.Common.{◌≡◌, ℕ, List, ◌++◌, [], Some, None, Ok, sym, ap, ◌∙◌, subst, append-nil}
use Rattle.std.proofs.lemmas.List.Elements.{All-nil}
use Rattle.session.specs.Table.{secret}
use Rattle.sink.specs.Store.{Store}
use Rattle.runs.specs.Runs.{Card, card, asked_in}
use Rattle.runs.specs.Law.{Lends, Finished}
use Rattle.runs.specs.Reached.{AfterTurn}
use Rattle.runs.proofs.Turns.{lends-part, no-more, not-refused, asked}
use Rattle.runs.proofs.ask.Goals as goal

pub returns-in-Ok-None-clause-grows : goal.returns-in-Ok-None-clause-grows
returns-in-Ok-None-clause-grows g c =
    let of : List ℕ → Store → Card = λ m s. card (secret (g.K.Key.sizes c.args.key.now) (g.K.Key.checks c.args.key.now) (g.O.Operator.order c.args.blinding.now) (g.O.Operator.matrix c.args.blinding.now)) m s in
    let is : c.speak.result ≡ Ok None = c.in-Ok-None.is ∙ ap Ok c.in-Ok-None.field-0-is in (
      [],
      sym (append-nil c.args.run.events.items),
      (
        All-nil (λ e. Lends c.args.l (asked_in e)),
        λ m s before after reached fitting bytes past at whole.
            subst (Finished (of m s) before) (sym (append-nil after)) (no-more (of m s) c.args.run.events.items before after _ _ _ _ _ _ _ _ _ _ _ c.args.host.now.bounds c.speak.ensures.does past at is),
      ),
    )

pub returns-in-Err-clause-grows : goal.returns-in-Err-clause-grows
returns-in-Err-clause-grows g c =
    let of : List ℕ → Store → Card = λ m s. card (secret (g.K.Key.sizes c.args.key.now) (g.K.Key.checks c.args.key.now) (g.O.Operator.order c.args.blinding.now) (g.O.Operator.matrix c.args.blinding.now)) m s in (
      [],
      sym (append-nil c.args.run.events.items),
      (
        All-nil (λ e. Lends c.args.l (asked_in e)),
        λ m s before after reached fitting bytes past at whole.
            absurd (not-refused (of m s) c.args.run.events.items before after _ _ _ _ _ _ _ _ _ _ _ c.args.host.now.bounds c.speak.ensures.does past at _ c.in-Err.is),
      ),
    )

pub returns-clause-grows : goal.returns-clause-grows
returns-clause-grows g c =
    let of : List ℕ → Store → Card = λ m s. card (secret (g.K.Key.sizes c.args.key.now) (g.K.Key.checks c.args.key.now) (g.O.Operator.order c.args.blinding.now) (g.O.Operator.matrix c.args.blinding.now)) m s in
    let is : c.speak.result ≡ Ok (Some c.in-Ok-Some.length) = c.in-Ok-Some.is ∙ ap Ok c.in-Ok-Some.field-0-is in
    let new = c.turn-run.result.events.items in (
      c.turn-run.ensures.grows.0,
      c.turn-run.ensures.grows.1,
      (
        lends-part c.args.l _ c.turn-run.result.whole c.turn-run.ensures.grows.0 c.turn-run.ensures.grows.2,
        λ m s before after reached fitting bytes past at whole.
            let k = of m s in
            let next = c.turn-run.ensures.reached m s reached in
            subst (λ b. AfterTurn k before (after ++ c.turn-run.ensures.grows.0) b c.args.host.now.size c.args.host.now.stage c.hear.new.self.stage c.hear.new.first c.speak.new.second c.speak.new.frame) (sym c.is_ok-heard.ensures.value)
            (asked k c.args.run.events.items before after _ _ _ _ _ _ _ _ _ _ _ c.args.host.now.bounds c.speak.ensures.does past at c.in-Ok-Some.length c.args.l is fitting bytes reached.few c.speak.ensures.means
            c.last_reply.result.now c.hear.result c.hear.new.self.stage c.hear.new.first c.hear.ensures.means c.speak.auto.first c.speak.auto.second c.speak.auto.frame c.hear.auto.first
            new c.turn-run.result.whole c.turn-run.ensures.grows whole next.told
            (λ old e q. c.last_reply.ensures old e (c.deref.ensures.value ∙ q))),
      ),
    )

use Rattle.std.proofs.Common.{ℕ, List, [], ◌++◌, sym, refl, ap, ◌∙◌, append-nil, append_assoc, arith}
use Rattle.std.proofs.lemmas.List.Elements.{All-append, All-nil}
use Rattle.sink.specs.Store.{Store}
use Rattle.session.specs.Table.{secret}
use Rattle.runs.specs.declared.calls.Event.{Event}
use Rattle.runs.specs.Runs.{Card, card, asked_in, with_columns}
use Rattle.runs.specs.Law.{Lends}
use Rattle.runs.proofs.Turns.{turns-some, goes-on, stops}
use Rattle.runs.proofs.ask_all.Goals as goal

pub loop-init : goal.loop-init
loop-init g c = record {
  reached = λ m s h. h;
  grows = ([], sym (append-nil c.args.run.events.items), (All-nil (λ e. Lends c.args.l (asked_in e)), λ m s r f b h room. (h, omega (arith, room))));
  sink = refl;
}

pub loop-preserved : goal.loop-preserved
loop-preserved g c =
    let store = g.S.Sink.store in
    let of : List ℕ → Store → Card = λ m s. card (secret (g.K.Key.sizes c.args.key.now) (g.K.Key.checks c.args.key.now) (g.O.Operator.order c.args.blinding.now) (g.O.Operator.matrix c.args.blinding.now)) m s in
    let before = c.loop.invariant in
    let new = store c.ask-next.new.sink in
    let begun = c.args.run.events.items in
    let p : List Event = before.grows.0 in
    let q : List Event = c.ask-next.ensures.grows.0 in
    let more = c.if-not-more.false in
    record {
      reached = λ m s h. c.ask-next.ensures.reached m s (before.reached m s h);
      grows = (
        p ++ q,
        c.ask-next.ensures.grows.1 ∙ ap (λ x. x ++ q) before.grows.1 ∙ append_assoc begun p q,
        (
          All-append (λ e. Lends c.args.l (asked_in e)) p q before.grows.2.0 c.ask-next.ensures.grows.2.0,
          λ m s r f b h room.
              let a = before.grows.2.1 m s r f b h room in
              goes-on (of m s) begun (p ++ q) _ c.loop.host.size _ c.loop.host.stage _ _ _ _ c.loop.counter c.args.limit more c.ask-next.ensures.size
              (c.ask-next.ensures.grows.2.1 m s begun p (before.reached m s r) f b before.grows.1 a.0 (c.ask-next.ensures.more more)) a.1,
        ),
      );
      sink = rw c.ask-next.ensures.sink (ap (λ s. with_columns s new.columns) before.sink);
    }

pub returns-then-not-more-clause-grows : goal.returns-then-not-more-clause-grows
returns-then-not-more-clause-grows g c =
    let of : List ℕ → Store → Card = λ m s. card (secret (g.K.Key.sizes c.args.key.now) (g.K.Key.checks c.args.key.now) (g.O.Operator.order c.args.blinding.now) (g.O.Operator.matrix c.args.blinding.now)) m s in
    let before = c.loop.invariant in
    let begun = c.args.run.events.items in
    let p : List Event = before.grows.0 in
    let q : List Event = c.ask-next.ensures.grows.0 in (
      p ++ q,
      c.ask-next.ensures.grows.1 ∙ ap (λ x. x ++ q) before.grows.1 ∙ append_assoc begun p q,
      (
        All-append (λ e. Lends c.args.l (asked_in e)) p q before.grows.2.0 c.ask-next.ensures.grows.2.0,
        λ m s r f b h room whole.
            let a = before.grows.2.1 m s r f b h room in
            stops (of m s) begun (p ++ q) _ c.loop.host.size c.loop.host.stage _ _ _ _ c.if-not-more.true
            (c.ask-next.ensures.grows.2.1 m s begun p (before.reached m s r) f b before.grows.1 a.0 whole),
      ),
    )

pub returns-clause-grows : goal.returns-clause-grows
returns-clause-grows g c =
    let before = c.loop.invariant in (
      before.grows.0,
      before.grows.1,
      (
        before.grows.2.0,
        λ m s r f b h room whole.
            let a = before.grows.2.1 m s r f b h room in
            let left = a.1 in
            let some = turns-some c.loop.host.size c.loop.host.stage in
            absurd (omega (arith, left, some)),
      ),
    )

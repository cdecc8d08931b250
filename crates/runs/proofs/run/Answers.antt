use Rattle.std.proofs.Common.{◌≡◌, ◌⊎◌, ◌+◌, ◌-◌, true, eqb, List, [], ◌++◌, take, drop, length, MatchOption, sym, ap, ◌∙◌, subst, zero-add, arith}
use Rattle.std.proofs.lemmas.Bool.{and_parts}
use Rattle.std.proofs.lemmas.List.{length-append}
use Rattle.params.specs.Sets.{named}
use Rattle.session.specs.Table.{secret}
use Rattle.runs.specs.declared.calls.Event.{Event}
use Rattle.runs.specs.Runs.{Card, card}
use Rattle.runs.specs.Law.{Finished, Hosted, PhaseZero}
use Rattle.runs.specs.Reached.{Reached}
use Rattle.runs.proofs.Reaches.{waits}
use Rattle.runs.proofs.Parts.{listed-is, hosted-is, made-le, both-whole, list-stops, host-stops}
use Rattle.runs.proofs.Beginning.{if-more, matched-more, not-hosted}
use Rattle.runs.proofs.run.Goals as goal

pub returns-clause-reached : goal.returns-clause-reached
returns-clause-reached g c empty =
    let store = g.S.Sink.store in
    let order = g.O.Operator.order c.args.blinding.now in
    let R = g.O.Operator.matrix c.args.blinding.now in
    let k : Card = card (secret (g.K.Key.sizes c.args.key.now) (g.K.Key.checks c.args.key.now) order R) c.args.inverse.now (store c.args.sink.now) in
    let at0 : Reached k c.new.result.items c.begin.result c.args.inverse.now (store c.args.sink.now) =
    rw c.new.ensures.items (c.begin.ensures.reached order R c.args.inverse.now (store c.args.sink.now) empty) in
    let at1 = c.make_all-run.ensures.reached c.args.inverse.now (store c.args.sink.now) at0 in
    let at2 = c.host_on-run.ensures.reached c.args.inverse.now (store c.args.sink.now) at1 in
    c.make_all-run-2.ensures.reached c.args.inverse.now (store c.args.sink.now) at2

pub returns-clause-law : goal.returns-clause-law
returns-clause-law g c empty =
    c.begin.ensures.law (g.O.Operator.order c.args.blinding.now) (g.O.Operator.matrix c.args.blinding.now) c.args.inverse.now (g.S.Sink.store c.args.sink.now) _ c.make_all-run-2.result.stage
    c.make_all-run-2.new.inverse (g.S.Sink.store c.make_all-run-2.new.sink) (returns-clause-reached g c empty)

pub returns-clause-finished : goal.returns-clause-finished
returns-clause-finished g c empty =
    let store = g.S.Sink.store in
    let order = g.O.Operator.order c.args.blinding.now in
    let R = g.O.Operator.matrix c.args.blinding.now in
    let k : Card = card (secret (g.K.Key.sizes c.args.key.now) (g.K.Key.checks c.args.key.now) order R) c.args.inverse.now (store c.args.sink.now) in
    let at0 : Reached k c.new.result.items c.begin.result c.args.inverse.now (store c.args.sink.now) =
    rw c.new.ensures.items (c.begin.ensures.reached order R c.args.inverse.now (store c.args.sink.now) empty) in
    let at1 = c.make_all-run.ensures.reached c.args.inverse.now (store c.args.sink.now) at0 in
    let es : List Event = c.make_all-run.result.events.items in
    let p : List Event = c.host_on-run.ensures.grows.0 in
    let q : List Event = c.make_all-run-2.ensures.grows.0 in
    let all : List Event = c.make_all-run-2.result.events.items in
    let listed : c.len-listed.result ≡ length es = c.len-listed.ensures ∙ c.make_all-run.result.events.ok.0 in
    let reached-by : c.len.result ≡ length c.host_on-run.result.events.items = c.len.ensures ∙ c.host_on-run.result.events.ok.0 in
    let two : length c.host_on-run.result.events.items ≡ length es + length p = ap length c.host_on-run.ensures.grows.1 ∙ length-append es p in
    let hosted : c.len.result - c.len-listed.result ≡ length p = omega (arith, listed, reached-by, two) in
    let is : all ≡ (es ++ p) ++ q = c.make_all-run-2.ensures.grows.1 ∙ ap (λ x. x ++ q) c.host_on-run.ensures.grows.1 in
    let first-part : take c.len-listed.result all ≡ es = listed-is es p q all c.len-listed.result (c.len.result - c.len-listed.result) is listed hosted in
    let second-part : take (c.len.result - c.len-listed.result) (drop c.len-listed.result all) ≡ p = hosted-is es p q all c.len-listed.result (c.len.result - c.len-listed.result) is listed hosted in
    if-more c.args.host_set _ _
    (λ name done sized fit wait whole.
    let yet : c.host_on-run.result.whole ≡ true = (and_parts c.host_on-run.result.whole _ (sym c.make_all-run-2.ensures.whole ∙ whole)).0 in
    subst (λ z. Finished k z (take (c.len.result - c.len-listed.result) (drop c.len-listed.result all))) (sym first-part)
    (subst (λ z. Finished k es z) (sym second-part) (done sized fit (waits k es c.make_all-run.result.stage at1.agrees (subst (PhaseZero k) first-part wait)) yet)))
    (c.host_on-run.ensures.grows.2.1 c.args.inverse.now (store c.args.sink.now) at1)

pub returns-clause-hosted : goal.returns-clause-hosted
returns-clause-hosted g c =
    let es : List Event = c.make_all-run.result.events.items in
    let p : List Event = c.host_on-run.ensures.grows.0 in
    let q : List Event = c.make_all-run-2.ensures.grows.0 in
    let all : List Event = c.make_all-run-2.result.events.items in
    let listed : c.len-listed.result ≡ length es = c.len-listed.ensures ∙ c.make_all-run.result.events.ok.0 in
    let reached-by : c.len.result ≡ length c.host_on-run.result.events.items = c.len.ensures ∙ c.host_on-run.result.events.ok.0 in
    let two : length c.host_on-run.result.events.items ≡ length es + length p = ap length c.host_on-run.ensures.grows.1 ∙ length-append es p in
    let hosted : c.len.result - c.len-listed.result ≡ length p = omega (arith, listed, reached-by, two) in
    let is : all ≡ (es ++ p) ++ q = c.make_all-run-2.ensures.grows.1 ∙ ap (λ x. x ++ q) c.host_on-run.ensures.grows.1 in
    let first-part : take c.len-listed.result all ≡ es = listed-is es p q all c.len-listed.result (c.len.result - c.len-listed.result) is listed hosted in
    let second-part : take (c.len.result - c.len-listed.result) (drop c.len-listed.result all) ≡ p = hosted-is es p q all c.len-listed.result (c.len.result - c.len-listed.result) is listed hosted in
    matched-more c.args.host_set _ _ _ _ (λ none. hosted ∙ ap length none) (λ name h. subst (Hosted (named name.now)) (sym second-part) h) c.host_on-run.ensures.grows.2.0

pub returns-clause-stops : goal.returns-clause-stops
returns-clause-stops g c =
    let start : c.new.result.len ≡ 0 = c.new.ensures.len in
    let one : c.make_all-run.result.whole ≡ eqb c.make_all-run.result.events.len (length c.args.calls.now) =
    c.make_all-run.ensures.whole ∙ ap (λ x. eqb c.make_all-run.result.events.len (x + length c.args.calls.now)) start ∙ ap (eqb c.make_all-run.result.events.len) (zero-add (length c.args.calls.now)) in
    let listed : c.len-listed.result ≡ c.make_all-run.result.events.len = c.len-listed.ensures in
    let reached-by : c.len.result ≡ c.host_on-run.result.events.len = c.len.ensures in
    let more : length c.host_on-run.result.events.items ≡ length c.make_all-run.result.events.items + length c.host_on-run.ensures.grows.0 = ap length c.host_on-run.ensures.grows.1 ∙ length-append c.make_all-run.result.events.items c.host_on-run.ensures.grows.0 in
    let ok1 : c.make_all-run.result.events.len ≡ length c.make_all-run.result.events.items = c.make_all-run.result.events.ok.0 in
    let ok2 : c.host_on-run.result.events.len ≡ length c.host_on-run.result.events.items = c.host_on-run.result.events.ok.0 in
    let end : c.len-listed.result + (c.len.result - c.len-listed.result) ≡ c.host_on-run.result.events.len = omega (arith, listed, reached-by, more, ok1, ok2) in
    let l3 = c.make_all-run-2.result.events.len in
    record {
      listed = subst (λ n. (l3 ≡ n) ⊎ (n ≡ length c.args.calls.now)) (sym listed)
          (list-stops c.make_all-run.result.whole c.host_on-run.result.whole c.make_all-run.result.events.len c.host_on-run.result.events.len l3 (length c.args.calls.now)
          one c.host_on-run.ensures.whole c.host_on-run.ensures.stays c.make_all-run-2.ensures.stays);
      hosted = subst (λ n. (l3 ≡ n) ⊎ (c.make_all-run-2.result.whole ≡ eqb l3 (n + length c.args.rest.now))) (sym end)
          (host-stops c.host_on-run.result.whole c.make_all-run-2.result.whole c.host_on-run.result.events.len l3 (length c.args.rest.now) c.make_all-run-2.ensures.whole c.make_all-run-2.ensures.stays);
    }

pub returns-clause-alone : goal.returns-clause-alone
returns-clause-alone g c none =
    let es : List Event = c.make_all-run.result.events.items in
    let p : List Event = c.host_on-run.ensures.grows.0 in
    let no-part : p ≡ [] = not-hosted c.args.host_set (λ name. named name.now) p none c.host_on-run.ensures.grows.2.0 in
    let start : c.new.result.len ≡ 0 = c.new.ensures.len in
    let one : c.make_all-run.result.whole ≡ eqb c.make_all-run.result.events.len (length c.args.calls.now) =
    c.make_all-run.ensures.whole ∙ ap (λ x. eqb c.make_all-run.result.events.len (x + length c.args.calls.now)) start ∙ ap (eqb c.make_all-run.result.events.len) (zero-add (length c.args.calls.now)) in
    let begun : es ≡ c.make_all-run.ensures.grows.0 = c.make_all-run.ensures.grows.1 ∙ ap (λ x. x ++ c.make_all-run.ensures.grows.0) c.new.ensures.items in
    let few = made-le c.args.calls.now c.make_all-run.ensures.grows.0 c.make_all-run.ensures.grows.2 in
    let long : c.make_all-run.result.events.len ≡ length c.make_all-run.ensures.grows.0 = c.make_all-run.result.events.ok.0 ∙ ap length begun in
    let two : length c.host_on-run.result.events.items ≡ length es + length p = ap length c.host_on-run.ensures.grows.1 ∙ length-append es p in
    let zero-part : length p ≡ 0 = ap length no-part in
    let ok1 : c.make_all-run.result.events.len ≡ length es = c.make_all-run.result.events.ok.0 in
    let ok2 : c.host_on-run.result.events.len ≡ length c.host_on-run.result.events.items = c.host_on-run.result.events.ok.0 in
    both-whole c.make_all-run.result.whole c.host_on-run.result.whole c.make_all-run-2.result.whole c.make_all-run.result.events.len c.host_on-run.result.events.len c.make_all-run-2.result.events.len (length c.args.calls.now) (length c.args.rest.now)
    one (omega (arith, few, long)) (c.host_on-run.ensures.alone none) (omega (arith, two, zero-part, ok1, ok2)) c.make_all-run-2.ensures.whole c.make_all-run-2.ensures.stays

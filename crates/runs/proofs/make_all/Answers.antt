use Rattle.std.proofs.Common.{◌≡◌, ◌+◌, true, false, ◌&&◌, cond, eqb, ne_eqb, length, sym, refl, ap, ◌∙◌, arith}
use borrow.Author.Tests.{not-false, not-true}
use Rattle.runs.specs.Runs.{with_columns}
use Rattle.runs.proofs.Parts.{Makes, adds_none, made_more, made_end}
use Rattle.runs.proofs.make_all.Goals as goal

pub loop-call-init : goal.loop-call-init
loop-call-init g c = record {
  reached = λ m s h. h;
  grows = adds_none _ (Makes c.args.calls.now 0) (refl, refl);
  count = omega arith;
  whole = not-false _ c.if-not-run.false;
  begun = not-false _ c.if-not-run.false;
  sink = refl;
}

pub loop-call-preserved : goal.loop-call-preserved
loop-call-preserved g c =
    let store = g.S.Sink.store in
    let before = c.loop-call.invariant in
    let new = store c.turn-run.new.sink in
    let is : c.turn-run.result.whole ≡ true = not-false _ c.if-not-run-2.false in
    let one : c.turn-run.result.events.len ≡ c.loop-call.run.events.len + 1 = c.turn-run.ensures.count ∙ ap (λ b. c.loop-call.run.events.len + cond b 1 0) is in
    record {
      reached = λ m s h. c.turn-run.ensures.reached m s (before.reached m s h);
      grows = made_more c.args.calls.now c.loop-call.call-index _ c.turn-run.result.whole _ c.loop-call.run.events.items c.turn-run.result.events.items c.loop-call-test.true is before.grows c.turn-run.ensures.grows;
      count = omega (arith, one, before.count);
      whole = is;
      begun = before.begun;
      sink = rw c.turn-run.ensures.sink (ap (λ s. with_columns s new.columns) before.sink);
    }

pub returns-then-not-run-2-clause-reached : goal.returns-then-not-run-2-clause-reached
returns-then-not-run-2-clause-reached g c = λ m s h. c.turn-run.ensures.reached m s (c.loop-call.invariant.reached m s h)

pub returns-then-not-run-2-clause-grows : goal.returns-then-not-run-2-clause-grows
returns-then-not-run-2-clause-grows g c =
    let lacked : c.turn-run.result.whole ≡ false = not-true _ c.if-not-run-2.true in
    made_end c.args.calls.now c.loop-call.call-index _ c.turn-run.result.whole _ c.loop-call.run.events.items c.turn-run.result.events.items lacked c.loop-call.invariant.grows c.turn-run.ensures.grows

pub returns-then-not-run-2-clause-whole : goal.returns-then-not-run-2-clause-whole
returns-then-not-run-2-clause-whole g c =
    let lacked : c.turn-run.result.whole ≡ false = not-true _ c.if-not-run-2.true in
    let none : c.turn-run.result.events.len ≡ c.loop-call.run.events.len + 0 = c.turn-run.ensures.count ∙ ap (λ b. c.loop-call.run.events.len + cond b 1 0) lacked in
    let begun = c.loop-call.invariant.begun in
    let count = c.loop-call.invariant.count in
    lacked ∙ sym ((λ i. begun i && eqb c.turn-run.result.events.len (c.args.run.events.len + length c.args.calls.now)) ∙ ne_eqb _ _ (omega (arith, none, count)))

pub returns-then-not-run-2-clause-sink : goal.returns-then-not-run-2-clause-sink
returns-then-not-run-2-clause-sink g c =
    let store = g.S.Sink.store in
    rw c.turn-run.ensures.sink (ap (λ s. with_columns s (store c.turn-run.new.sink).columns) c.loop-call.invariant.sink)

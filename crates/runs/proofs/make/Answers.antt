use Rattle.std.proofs.Common.{refl, inl, inr}
use Rattle.runs.specs.Runs.{asked_by}
use Rattle.runs.proofs.Quiet.{noted}
use Rattle.runs.proofs.make.Goals as goal

pub returns-in-Open-clause-goes : goal.returns-in-Open-clause-goes
returns-in-Open-clause-goes g c m s = rw c.in-Open.is (c.make_open.ensures m s (g.S.Sink.store c.args.sink.now))

pub returns-in-Publish-clause-goes : goal.returns-in-Publish-clause-goes
returns-in-Publish-clause-goes g c m s = rw (c.in-Publish.is, c.in-Ready.is) (c.publish-event.ensures.goes _ _ m s)

pub returns-in-Answer : goal.returns-in-Answer
returns-in-Answer g c = record {
  goes = λ m s. rw c.in-Ready.is (noted _ (asked_by c.args.call.now) _ c.args.inverse.now (g.S.Sink.store c.args.sink.now) _ c.not_allowed.ensures
      (λ past a. elim c.in-Answer.is [ inl x ↦ rw x.3 a.closed | inr e ↦ rw e a.closed ]));
  sink = refl;
}

use Rattle.runs.specs.Runs.{asked_by}
use Rattle.runs.proofs.Quiet.{noted}
use Rattle.runs.proofs.make_open.Goals as goal

pub returns-in-Answer : goal.returns-in-Answer
returns-in-Answer g c m s store = rw c.in-Answer.is (c.answer-event.ensures m s store)

pub returns-in-Close : goal.returns-in-Close
returns-in-Close g c m s store = rw c.in-Close.is (c.close-stage.ensures _ c.args.inverse.now store)

pub returns-in-Publish : goal.returns-in-Publish
returns-in-Publish g c m s store = noted _ (asked_by c.args.call.now) _ c.args.inverse.now store _ c.not_allowed.ensures (λ past a. rw c.in-Publish.is a.unclosed)

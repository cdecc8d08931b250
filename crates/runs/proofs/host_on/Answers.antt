use Rattle.std.proofs.Common.{[], MatchOption, append-nil, sym, ◌∙◌, subst}
use borrow.Author.Tests.{not-true}
use Rattle.std.proofs.lemmas.Bool.{false≢true}
use Rattle.params.specs.Sets.{named}
use Rattle.runs.specs.Law.{Unknown}
use Rattle.runs.proofs.Beginning.{matched-none, if-any}
use Rattle.runs.proofs.host_on.Goals as goal

pub returns-then-not-run-clause-grows : goal.returns-then-not-run-clause-grows
returns-then-not-run-clause-grows g c = (
  [],
  sym (append-nil c.args.run.events.items),
  (matched-none c.args.host_set (λ x. named x.now), λ m s r. if-any c.args.host_set _ (λ x of fit wait whole. absurd (false≢true (sym (not-true _ c.if-not-run.true) ∙ whole)))),
)

pub returns-in-Some-clause-grows : goal.returns-in-Some-clause-grows
returns-in-Some-clause-grows g c = (
  c.finish.ensures.grows.0,
  c.finish.ensures.grows.1,
  (rw c.in-Some.is c.finish.ensures.grows.2.0, λ m s r. rw c.in-Some.is (c.finish.ensures.grows.2.1 m s r)),
)

pub returns-in-None-clause-grows : goal.returns-in-None-clause-grows
returns-in-None-clause-grows g c = (
  [],
  sym (append-nil c.args.run.events.items),
  (matched-none c.args.host_set (λ x. named x.now), λ m s r. rw c.in-None.is tt),
)

pub returns-in-Some-clause-alone : goal.returns-in-Some-clause-alone
returns-in-Some-clause-alone g c un = c.finish.ensures.unknown (subst (λ o. MatchOption o (Unit {0}) (λ x. Unknown (named x.now))) c.in-Some.is un)

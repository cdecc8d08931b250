use Rattle.std.proofs.Common.{◌≡◌, ℕ, Ok, Err, Option, Result, refl, ◌∙◌, sym, subst₂}
use Rattle.std.specs.Result.{result_err}
use Rattle.session.specs.declared.fault.SessionFault.{SessionFault}
use Rattle.session.specs.Table.{secret}
use Rattle.session.specs.Answers as does
use Rattle.session.specs.Answers.{fault_in}
use Rattle.runs.specs.Runs.{Card, card}
use Rattle.runs.proofs.Quiet.{published-step}
use Rattle.runs.proofs.publish.Goals as goal

fault-is : (r : Result (Unit {0}) SessionFault) → fault_in r ≡ result_err r
fault-is (Ok x) = refl
fault-is (Err e) = refl

pub returns-clause-goes : goal.returns-clause-goes
returns-clause-goes g c order R m s =
    let store = g.S.Sink.store in
    let k : Card = card (secret (g.K.Key.sizes c.args.key.now) (g.K.Key.checks c.args.key.now) order R) m s in
    let y = c.args.ready.now in
    let y' = c.publish.new.self in
    let long = c.deref_mut.ensures.len ∙ c.in_ok-work.ensures.len in
    let fault = fault-is c.publish.result ∙ sym c.err-fault.ensures.value in
    let P : ℕ → Option SessionFault → Type 0 = λ l f. does.Published y.set k.secret.set k.secret.checks y.sent c.args.inverse.now l (store c.args.sink.now) f y'.sent (store c.publish.new.sink) in
    let done = subst₂ P long fault c.publish.ensures.done in
    (refl, λ past before. published-step k past y y' c.args.inverse.now (store c.args.sink.now) (store c.publish.new.sink) c.args.working before c.publish.ensures.set c.err-fault.result done)

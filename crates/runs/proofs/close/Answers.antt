use Rattle.std.proofs.Common.{refl, Some, sym, ◌∙◌, subst}
use Rattle.session.specs.Table.{first, closing_lines}
use Rattle.runs.specs.declared.calls.Event.TheVariants.{Closed}
use Rattle.runs.specs.declared.calls.Stage.TheVariants.{Open}
use Rattle.runs.specs.Reached.{Reached}
use Rattle.runs.proofs.Quiet.{idle, closed-step}
use Rattle.runs.proofs.close.Goals as goal

pub returns-in-Ok : goal.returns-in-Ok
returns-in-Ok c k inverse store =
    let told = c.in-Ok.ensures in
    (refl, λ past before. closed-step k past c.args.session c.in-Ok.ready inverse store before told.0 told.1 told.2)

pub returns-in-Err : goal.returns-in-Err
returns-in-Err c k inverse store =
    let told = c.in-Err.ensures in (
      refl,
      λ past before.
          let e = Closed (Some c.in-Err.field-0.fault) in
          idle k past (Open c.in-Err.field-0.session) inverse store e (subst (λ o. Reached k past (Open o) inverse store) (sym told.1) before) refl
          (before.agrees.unclosed, told.0 ∙ (λ i. first (closing_lines (before.agrees.at_phase i) (before.agrees.rows i)))) refl refl,
    )

use Rattle.std.proofs.Common.{length, refl, rules}
use Rattle.audit.specs.declared.verdict.Verdict.TheVariants.{Length}
use Rattle.audit.specs.Verdicts.{Long}
use Rattle.audit.proofs.Only.{only, answered_only}
use Rattle.audit.proofs.check.Goals as goal

pub returns-then-published-n-clause-only : goal.returns-then-published-n-clause-only
returns-then-published-n-clause-only g c u h =
    let key = c.args.key.now in
    let s = g.K.Key.sizes key in
    let xs = c.args.published.now in
    let unfit : Long s xs → ⊥ = search rules in
    only s (g.K.Key.checks key) xs (Length (length xs)) u (refl, unfit) h

pub returns-clause-only : goal.returns-clause-only
returns-clause-only g c =
    let key = c.args.key.now in
    answered_only (g.K.Key.sizes key) (g.K.Key.checks key) c.args.published.now _ c.judge.ensures

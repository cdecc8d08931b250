use Rattle.std.proofs.Common.{subst}
use Rattle.audit.specs.Solving.{Inverted}
use Rattle.audit.proofs.Regular.{no-public}
use Rattle.audit.proofs.judge.Goals as goal

pub returns-in-Dependent : goal.returns-in-Dependent
returns-in-Dependent g c =
    let key = c.args.key.now in
    let s = g.K.Key.sizes key in
    let H = g.K.Key.checks key in
    let singular = subst (Inverted s.rows H c.invert.new.rows) c.in-Dependent.is c.in_ok-invert.ensures in
    (c.requires.long, singular, no-public s H (g.K.Key.elements key) singular)

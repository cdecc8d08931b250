use Rattle.std.proofs.Common.{refl, ap}
use Rattle.session.specs.State.{phase_number}
use Rattle.session.specs.Table.{secret}
use Rattle.runs.specs.Runs.{card}
use Rattle.runs.proofs.Reaches.{fresh, reached-law}
use Rattle.runs.proofs.begin.Goals as goal

pub returns : goal.returns
returns g c = record {
  reached = λ order R inverse store empty.
      fresh (card (secret (g.K.Key.sizes c.args.key.now) (g.K.Key.checks c.args.key.now) order R) inverse store) c.new.result inverse store
      c.new.ensures.set (ap phase_number c.new.ensures.phase) c.new.ensures.rows (g.K.Key.bounded c.args.key.now).0 refl (refl, refl) empty;
  law = λ order R m s past stage inverse store at.
      reached-law (card (secret (g.K.Key.sizes c.args.key.now) (g.K.Key.checks c.args.key.now) order R) m s) past stage inverse store
      (g.K.Key.bounded c.args.key.now).0 (g.K.Key.elements c.args.key.now) at;
}

use Rattle.quotient.proofs.Ring.{ring}
use Rattle.quotient.proofs.Roots.{monic-or-dependent}
use Rattle.quotient.proofs.theory_stands.Goals as goal

pub returns : goal.returns
returns c = record { ring = ring; roots = monic-or-dependent }

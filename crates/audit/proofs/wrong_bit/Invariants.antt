use Rattle.audit.specs.Verdicts.{SameColumns}
use Rattle.audit.specs.Solving.{product}
use Rattle.audit.proofs.wrong_bit.Given as goal

abbrev pub invariant-loop-c : goal.invariant-loop-c
invariant-loop-c g l = SameColumns l.n l.k l.published (product l.n l.inverse (g.K.Key.checks l.key)) l.c

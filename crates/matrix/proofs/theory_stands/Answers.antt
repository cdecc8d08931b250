use Rattle.matrix.proofs.Checks.{inverses, algebra}
use Rattle.matrix.proofs.theory_stands.Goals as goal

pub returns : goal.returns
returns c = record { inverses = inverses; algebra = algebra }

use Rattle.std.proofs.Common.{◌∙◌, arith}
use Rattle.matrix.proofs.Sums.{delta-off}
use Rattle.matrix.proofs.Searches.{found-cong}
use Rattle.bits.proofs.first_nonzero.Goals as goal

pub returns : goal.returns
returns c = c.first_wrong.ensures ∙ found-cong c.args.n _ _ (λ k l. rw (delta-off c.args.n k (omega arith)))

use Rattle.std.proofs.Common.{arith}
use Rattle.bits.proofs.Bytes.{parity-folded}
use Rattle.bits.proofs.parity.Goals as goal

pub returns : goal.returns
returns c = parity-folded c.args.x (omega arith)

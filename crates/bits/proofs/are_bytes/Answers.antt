use Rattle.std.proofs.Common.{arith}
use Rattle.bits.proofs.are_bytes.Goals as goal

-- what the loop has looked at, and not what the type tells of every slice
pub returns : goal.returns
returns c = λ k h. c.loop-x.invariant k (omega (arith, c.loop-x-test.false))

use Rattle.operator.proofs.Chunks.{Combined}
use Rattle.operator.proofs.stored.combine_rows.Given as goal

abbrev pub invariant-loop-i : goal.invariant-loop-i
invariant-loop-i l = Combined l.m.n l.m.rows.now l.v l.i-iterator.iter.size l.i-iterator.iter.rest.now l.i-iterator.count l.out

use Rattle.sink.proofs.Keys.{Writing}
use Rattle.sink.proofs.key.PackedLayout.write.Given as goal

abbrev pub invariant-loop-i : goal.invariant-loop-i
invariant-loop-i l = Writing l.w l.fn.shape.size l.at l.column l.initial.bytes l.bytes l.i

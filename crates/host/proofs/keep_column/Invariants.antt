use Rattle.std.proofs.Common.{◌≡◌}
use Rattle.bits.specs.Bits.{bits_of}
use Rattle.host.specs.Frames.{with_cells}
use Rattle.host.proofs.keep_column.Given as goal

abbrev pub invariant-loop-i : goal.invariant-loop-i
invariant-loop-i l = l.first ≡ with_cells l.n l.j l.i (bits_of l.column) l.fn.first

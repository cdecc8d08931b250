use Rattle.std.proofs.Common.{◌≤◌}
use Rattle.matrix.specs.Matrix.{Mat}
use Rattle.solver.specs.Squares.{InPlace, Reaches}
use Rattle.solver.proofs.Square.do_columns.Given as goal

abbrev pub invariant-loop-c : goal.invariant-loop-c
invariant-loop-c g l = record {
  low : l.r ≤ l.c;
  place : InPlace l.initial.self l.self × InPlace l.initial.beside l.beside;
  state : (M : Mat) → Reaches l.initial.self l.initial.beside M 0 0 → Reaches l.self l.beside M l.c l.r;
}

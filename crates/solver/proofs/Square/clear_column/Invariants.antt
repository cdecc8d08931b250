use Rattle.matrix.specs.Matrix.{Mat}
use Rattle.solver.specs.Squares.{InPlace, Clears}
use Rattle.solver.proofs.Square.clear_column.Given as goal

abbrev pub invariant-loop-i : goal.invariant-loop-i
invariant-loop-i g l = record {
  place : InPlace l.initial.self l.self × InPlace l.initial.beside l.beside;
  state : (M : Mat) → Clears l.initial.self l.initial.beside M l.c l.r 0 → Clears l.self l.beside M l.c l.r l.i;
}

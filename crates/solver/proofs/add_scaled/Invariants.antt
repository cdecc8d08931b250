use Rattle.std.proofs.Common.{◌≡◌, ℕ, ◌<◌, length}
use lib.Bits.{bit_xor}
use Rattle.solver.specs.Cells.{largest, element, entry}
use Rattle.solver.proofs.Rows.{Done}
use Rattle.solver.proofs.add_scaled.Given as goal

abbrev pub invariant-loop-k : goal.invariant-loop-k
invariant-loop-k g l =
    let f = g.F.Field in
    record {
      long : length l.copy ≡ largest;
      made : (j : ℕ) → j < l.k → entry f.WIDTH f.number l.copy j ≡ entry f.WIDTH f.number l.other j;
    }

abbrev pub invariant-loop-j : goal.invariant-loop-j
invariant-loop-j g l =
    let f = g.F.Field in
    let E = entry f.WIDTH f.number in
    record {
      long : length l.copy ≡ largest;
      done : Done f.WIDTH f.number (λ k. bit_xor (E l.initial.row k) (f.arith.mul (element f.WIDTH f.number l.s) (E l.copy k))) l.initial.row l.row l.j;
    }

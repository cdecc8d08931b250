-- What solving answers, for tables of sizes n and m over the field F. Assumes nothing.
-- told_solving           how the refusal is told
-- Fit                    tables that fit
-- TheInverse, Vanishing  an inverse; a combination of rows that shows that there is none
-- Solves, Solution       what is left in the second table; and in both
-- Refused, Answer        a refusal; one solving
use Rattle.std.specs.Prelude.{◌≡◌, ℕ, ◌*◌, ◌<◌, ◌≤◌, List, length, Ok, Err, Result}
use Rattle.refusal.specs.Refusals.{refused}
use Rattle.refusal.specs.declared.told.Refusal.{Refusal}
use Rattle.refusal.specs.declared.told.Layer.TheVariants.{Solving}
use Rattle.galois.specs.Arith.{Arith}
use Rattle.matrix.specs.Matrix.{Mat, delta, times, Same, Els, Dependent}
use Rattle.matrix.specs.Words.{Singular}
use Rattle.solver.specs.Cells.{largest, entries, Clean}
use Rattle.solver.specs.declared.Solved.{Solved}
use Rattle.solver.specs.declared.Solved.TheVariants.{Inverse, Dependent as Vanishes}
use Rattle.solver.specs.declared.SolveFault.{SolveFault}
use Rattle.solver.specs.declared.SolveFault.TheVariants.{Size}

-- the refusal of each fault
abbrev pub told_solving : SolveFault → Refusal
told_solving (Size n) = refused Solving 29 n

-- the two tables are n by n, with n from 1 to 1,664
pub record Fit {X : Type 0} (n m : ℕ) (xs ys : List X) : Type 0 where
  pub some : 0 < n
  pub few : n ≤ largest
  pub alike : m ≡ n
  pub first : length xs ≡ n * n
  pub second : length ys ≡ n * n

-- Y undoes M from both sides, and nothing else does
pub record TheInverse (F : Arith) (n : ℕ) (M Y : Mat) : Type 0 where
  pub left : Same n (times F n Y M) delta
  pub right : Same n (times F n M Y) delta
  pub only_left : (X : Mat) → Els F X → Same n (times F n X M) delta → Same n X Y
  pub only_right : (X : Mat) → Els F X → Same n (times F n M X) delta → Same n X Y

-- row r of Y is a combination of the rows of M that vanishes, so M has no inverse
pub record Vanishing (F : Arith) (n : ℕ) (M Y : Mat) (r : ℕ) : Type 0 where
  pub row : r < n
  pub combination : Dependent F n M (Y r)
  pub singular : Singular F n M

-- what a solved table M leaves in the second, Y
abbrev pub Solves : Arith → ℕ → Mat → Mat → Solved → Type 0
Solves F n M Y Inverse = TheInverse F n M Y
Solves F n M Y (Vanishes r) = Vanishing F n M Y r

-- tables that held the cells xs and ys were solved, and hold xs' and ys'
pub record Solution {X : Type 0} (F : Arith) (w : ℕ) (number : X → ℕ) (n m : ℕ) (xs ys xs' ys' : List X) (s : Solved) : Type 0 where
  pub fit : Fit n m xs ys
  pub first : Clean w number xs'
  pub second : Clean w number ys'
  pub solves : Solves F n (entries w number n xs) (entries w number n ys') s

-- tables that do not fit are refused, and keep their cells
pub record Refused {X : Type 0} (n m : ℕ) (xs ys xs' ys' : List X) (k : ℕ) : Type 0 where
  pub unfit : Fit n m xs ys → ⊥
  pub place : k ≡ n
  pub first : xs' ≡ xs
  pub second : ys' ≡ ys

-- what solving answers: a solution, or the refusal
abbrev pub Answer : {X : Type 0} → Arith → ℕ → (X → ℕ) → ℕ → ℕ → List X → List X → List X → List X → Result Solved SolveFault → Type 0
Answer F w number n m xs ys xs' ys' (Ok s) = Solution F w number n m xs ys xs' ys' s
Answer F w number n m xs ys xs' ys' (Err (Size k)) = Refused n m xs ys xs' ys' k

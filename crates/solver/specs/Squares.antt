-- What square tables hold. What private steps promise; no public contract cites it. Assumes nothing.
use Rattle.std.specs.Prelude.{◌≡◌, ℕ}
use Rattle.matrix.specs.Matrix.{Mat}
use Rattle.matrix.specs.Steps.{State, Clearing}
use Rattle.field.specs.declared.Field.{Ghosts}
use Rattle.solver.specs.Cells.{entries}
use Rattle.solver.specs.declared.Square.{Square}

-- the matrix of the elements of s
abbrev pub matrix : {X C : Type 0} {f : Ghosts X C} → Square X C f → Mat
matrix {f = f} s = entries f.WIDTH f.number s.order s.cells.now

-- t has the order of s, and the same lent cells
abbrev pub InPlace : {X C : Type 0} {f : Ghosts X C} → Square X C f → Square X C f → Type 0
InPlace s t = (t.order ≡ s.order) × (t.cells.ghost_name ≡ s.cells.ghost_name)

-- elimination of M has dealt with c columns, with r pivots
abbrev pub Reaches : {X C : Type 0} {f : Ghosts X C} → Square X C f → Square X C f → Mat → ℕ → ℕ → Type 0
Reaches {f = f} s u M c r = State f.arith s.order M (matrix s) (matrix u) c r

-- row r has its pivot in column c, and the other rows below i are cleared there
abbrev pub Clears : {X C : Type 0} {f : Ghosts X C} → Square X C f → Square X C f → Mat → ℕ → ℕ → ℕ → Type 0
Clears {f = f} s u M c r i = Clearing f.arith s.order M (matrix s) (matrix u) c r i

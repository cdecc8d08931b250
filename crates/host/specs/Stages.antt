-- The stages of a host of size n. Assumes nothing.
use Rattle.std.specs.Prelude.{ℕ, ◌+◌, Bool, true, cond, ◌==◌, nat_lt}
use Rattle.solver.specs.declared.Solved.{Solved}
use Rattle.solver.specs.declared.Solved.TheVariants.{Inverse, Dependent}
use Rattle.host.specs.declared.stage.Stage.{Stage}
use Rattle.host.specs.declared.stage.Stage.TheVariants.{Columns, Full, Status, Rows, Combination, Done}

-- a stage names a row or a column that there is
abbrev pub within : ℕ → Stage → Bool
within n (Columns j) = nat_lt j n
within n Full = true
within n (Status Inverse) = true
within n (Status (Dependent r)) = nat_lt r n
within n (Rows i) = nat_lt i n
within n (Combination r) = nat_lt r n
within n Done = true

-- column j is heard: the next one, if there is one
abbrev pub after_column : ℕ → ℕ → Stage
after_column n j = cond (j + 1 == n) Full (Columns (j + 1))

-- row i is sent: the next one, if there is one
abbrev pub after_row : ℕ → ℕ → Stage
after_row n i = cond (i + 1 == n) Done (Rows (i + 1))

-- the next row is heard: rows from there on, or the combination
abbrev pub after_status : Solved → ℕ → Stage
after_status Inverse i = Rows i
after_status (Dependent r) i = Combination r

-- a frame is written: on to the next row, or to the end; else the stage stays
abbrev pub after_frame : ℕ → Stage → Stage
after_frame n (Rows i) = after_row n i
after_frame n (Combination r) = Done
after_frame n st = st

-- an awaited reply is heard; i is the next row that a status tells
abbrev pub after_reply : ℕ → ℕ → Stage → Stage
after_reply n i (Columns j) = after_column n j
after_reply n i (Status s) = after_status s i
after_reply n i st = st

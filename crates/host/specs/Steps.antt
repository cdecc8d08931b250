-- What a step of a host of size n does. Assumes nothing.
-- fits, spoken_length, written   the lengths of the memories; of a frame; the frame in its memory
-- Moved                          what speaking makes of stage and tables
-- SpeakRefused, Said, Spoken     what speaking gives and leaves
-- awaited, kept, Heard           what hearing gives and leaves
use Rattle.std.specs.Prelude.{◌≡◌, ℕ, ◌+◌, ◌*◌, Bool, true, false, cond, ◌&&◌, List, [], length, take, drop, Some, None, Ok, Err, Option, Result, ◌==◌}
use Rattle.galois.specs.Bit.{bits}
use Rattle.bits.specs.Bits.{bytes_for, bits_of}
use Rattle.bits.specs.Bytes.{laid}
use Rattle.solver.specs.Answers.{Solves}
use Rattle.solver.specs.Cells.{Clean}
use Rattle.solver.specs.declared.Solved.{Solved}
use Rattle.host.specs.declared.stage.Stage.{Stage}
use Rattle.host.specs.declared.stage.Stage.TheVariants.{Columns, Full, Status, Rows, Combination, Done}
use Rattle.host.specs.declared.fault.HostFault.{HostFault}
use Rattle.host.specs.declared.fault.HostFault.TheVariants.{Length, Reply}
use Rattle.host.specs.Frames.{bit_table, frame_of, is_column, is_status, next_row, with_cells}
use Rattle.host.specs.Stages.{after_frame, after_reply}

-- tables of a and of b cells and f bytes for a frame are what size n asks for
abbrev pub fits : ℕ → ℕ → ℕ → ℕ → Bool
fits n a b f = a == (n * n) && (b == (n * n) && f == bytes_for n + 3)

-- the length of the frame of a stage
abbrev pub spoken_length : ℕ → Stage → Option ℕ
spoken_length n (Columns j) = Some 3
spoken_length n Full = Some 1
spoken_length n (Status s) = Some 1
spoken_length n (Rows i) = Some (bytes_for n + 3)
spoken_length n (Combination r) = Some (bytes_for n + 1)
spoken_length n Done = None

-- the frame that speaking wrote into its memory
abbrev pub written : Result (Option ℕ) HostFault → List ℕ → List ℕ
written (Ok (Some k)) memory = take k memory
written (Ok None) memory = []
written (Err e) memory = []

-- what speaking makes of the stage and of the tables xs and ys
abbrev pub Moved : ℕ → Stage → List ℕ → List ℕ → Stage → List ℕ → List ℕ → Type 0
Moved n Full xs ys st' xs' ys' = (s : Solved) × (st' ≡ Status s) × Solves bits n (bit_table n xs) (bit_table n ys') s × Clean 1 (λ x. x) ys'
Moved n st xs ys st' xs' ys' = (st' ≡ after_frame n st) × (xs' ≡ xs) × (ys' ≡ ys)

-- a refusal leaves all as it was
pub record SpeakRefused (st : Stage) (xs ys fr : List ℕ) (r : Result (Option ℕ) HostFault) (st' : Stage) (xs' ys' fr' : List ℕ) : Type 0 where
  pub fault : r ≡ Err Length
  pub stage : st' ≡ st
  pub first : xs' ≡ xs
  pub second : ys' ≡ ys
  pub frame : fr' ≡ fr

-- the frame of the stage is written
pub record Said (n : ℕ) (st : Stage) (xs ys fr : List ℕ) (r : Result (Option ℕ) HostFault) (st' : Stage) (xs' ys' fr' : List ℕ) : Type 0 where
  pub result : r ≡ Ok (spoken_length n st)
  pub frame : fr' ≡ laid (frame_of n st ys') fr
  pub moved : Moved n st xs ys st' xs' ys'

-- one speaking: from stage st, tables xs and ys, frame memory fr
pub record Spoken (n : ℕ) (st : Stage) (xs ys fr : List ℕ) (r : Result (Option ℕ) HostFault) (n' : ℕ) (st' : Stage) (xs' ys' fr' : List ℕ) : Type 0 where
  pub size : n' ≡ n
  pub refused : fits n (length xs) (length ys) (length fr) ≡ false → SpeakRefused st xs ys fr r st' xs' ys' fr'
  pub said : fits n (length xs) (length ys) (length fr) ≡ true → Said n st xs ys fr r st' xs' ys' fr'

-- the reply r is one awaited; any is, where none is looked at
abbrev pub awaited : ℕ → Stage → List ℕ → Bool
awaited n (Columns j) r = is_column n j r
awaited n (Status s) r = is_status n r
awaited n st r = true

-- the first table after an awaited reply r
abbrev pub kept : ℕ → Stage → List ℕ → List ℕ → List ℕ
kept n (Columns j) r xs = with_cells n j n (bits_of (drop 3 r)) xs
kept n st r xs = xs

-- one hearing: in stage st, with the first table xs
pub record Heard (n : ℕ) (st : Stage) (xs reply : List ℕ) (r : Result (Unit {0}) HostFault) (n' : ℕ) (st' : Stage) (xs' : List ℕ) : Type 0 where
  pub size : n' ≡ n
  pub result : r ≡ cond (length xs == (n * n)) (cond (awaited n st reply) (Ok tt) (Err Reply)) (Err Length)
  pub stage : st' ≡ cond (length xs == (n * n)) (cond (awaited n st reply) (after_reply n (next_row reply) st) Done) st
  pub first : xs' ≡ cond (length xs == (n * n)) (cond (awaited n st reply) (kept n st reply xs) xs) xs

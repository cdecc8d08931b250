-- The phases of an open session. Assumes nothing.
use Rattle.std.specs.Prelude.{ℕ, Bool, ◌==◌, nat_lt}
use Rattle.session.specs.declared.state.Phase.{Phase}
use Rattle.session.specs.declared.state.Phase.TheVariants.{Receiving, Complete, Singular}

-- the number of a phase: 0 open, 1 complete, 2 singular
abbrev pub phase_number : Phase → ℕ
phase_number Receiving = 0
phase_number Complete = 1
phase_number Singular = 2

-- a session is complete when all n rows were taken
abbrev pub agrees : Phase → ℕ → ℕ → Bool
agrees Receiving taken n = nat_lt taken n
agrees Complete taken n = taken == n
agrees Singular taken n = nat_lt taken n

-- Cleared memory. Assumes nothing.
use Rattle.std.specs.Prelude.{◌≡◌, List, ℕ, length, replicate}

-- every number is 0
abbrev pub AllZero : List ℕ → Type 0
AllZero xs = xs ≡ replicate (length xs) 0

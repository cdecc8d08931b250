use Rattle.std.proofs.Common.{◌≡◌, ℕ, ◌<◌, ◌≤◌, get_or}
use lib.Bits.{bit_xor}
use Rattle.bits.proofs.xor_row.Given as goal

abbrev pub invariant-loop-j : goal.invariant-loop-j
invariant-loop-j l =
    ((k : ℕ) → k < l.j → get_or l.out k 0 ≡ bit_xor (get_or l.initial.out k 0) (get_or l.row k 0))
    × ((k : ℕ) → l.j ≤ k → get_or l.out k 0 ≡ get_or l.initial.out k 0)

use Rattle.std.proofs.Common.{◌≡◌, ℕ, ◌<◌, ◌≤◌, get_or}
use lib.Bits.{bit_xor, bit_and}
use Rattle.galois.specs.Gf.{times}
use Rattle.block.proofs.row.Lanes.advance.Given as goal

abbrev pub invariant-loop-j : goal.invariant-loop-j
invariant-loop-j g l =
    let f = g.F.Field in
    let new = l.self in
    let old = l.initial.self in
    (new.xs ≡ old.xs)
    × ((k : ℕ) → k < l.j → get_or new.sums k 0 ≡ bit_xor (get_or old.sums k 0) (bit_and l.word (get_or old.powers k 0)))
    × ((k : ℕ) → l.j ≤ k → get_or new.sums k 0 ≡ get_or old.sums k 0)
    × ((k : ℕ) → k < l.j → get_or new.powers k 0 ≡ times f.WIDTH f.REDUCER (get_or old.xs k 0) (get_or old.powers k 0))
    × ((k : ℕ) → l.j ≤ k → get_or new.powers k 0 ≡ get_or old.powers k 0)

use Rattle.std.proofs.Common.{◌≡◌, ℕ, ◌<◌, ◌≤◌, bit_xor, get_or}
use Rattle.galois.specs.Gf.{times}
use Rattle.maker.proofs.add_scaled.Given as goal

abbrev pub invariant-loop-i : goal.invariant-loop-i
invariant-loop-i g l =
    ((k : ℕ) → k < l.i → get_or l.out k 0 ≡ bit_xor (get_or l.initial.out k 0) (times g.F.Field.WIDTH g.F.Field.REDUCER l.x (get_or l.row k 0)))
    × ((k : ℕ) → l.i ≤ k → get_or l.out k 0 ≡ get_or l.initial.out k 0)

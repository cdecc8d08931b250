use Rattle.std.proofs.Common.{◌≡◌, ℕ, ◌<◌, ◌≤◌, get_or}
use lib.Bits.{bit_xor}
use Rattle.block.specs.Lanes.{scaled}
use Rattle.block.proofs.column.add_powers.Given as goal

abbrev pub invariant-loop-word : goal.invariant-loop-word
invariant-loop-word g l =
    let f = g.F.Field in
    ((k : ℕ) → k < l.word-index → get_or l.words k 0 ≡ bit_xor (get_or l.initial.words k 0) (scaled f.WIDTH f.REDUCER l.x l.y k))
    × ((k : ℕ) → l.word-index ≤ k → get_or l.words k 0 ≡ get_or l.initial.words k 0)
    × (l.power ≡ scaled f.WIDTH f.REDUCER l.x l.y l.word-index)

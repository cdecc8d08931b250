use Rattle.std.proofs.Common.{◌≡◌, ℕ, ◌<◌, get_or}
use Rattle.block.specs.Lanes.{scaled, crossed}
use Rattle.block.proofs.row.cross.Given as goal

abbrev pub invariant-loop-word : goal.invariant-loop-word
invariant-loop-word g l =
    let f = g.F.Field in
    let old = l.initial.lanes in
    (l.lanes.xs ≡ old.xs)
    × ((k : ℕ) → k < 32 → get_or l.lanes.sums k 0 ≡ crossed f.WIDTH f.REDUCER l.word-index l.words (get_or old.xs k 0) (get_or old.powers k 0))
    × ((k : ℕ) → k < 32 → get_or l.lanes.powers k 0 ≡ scaled f.WIDTH f.REDUCER (get_or old.xs k 0) (get_or old.powers k 0) l.word-index)

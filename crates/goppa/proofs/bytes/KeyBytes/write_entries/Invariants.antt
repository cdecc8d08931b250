use Rattle.std.proofs.Common.{◌≡◌, ℕ, ◌+◌, ◌<◌, ◌≤◌, get_or}
use Rattle.goppa.specs.Loading.{entry_in}
use Rattle.goppa.proofs.bytes.KeyBytes.write_entries.Given as goal

abbrev pub invariant-loop-k : goal.invariant-loop-k
invariant-loop-k l =
    ((k : ℕ) → k < l.k → get_or l.out k 0 ≡ entry_in l.self.bytes.now (l.at + k))
    × ((k : ℕ) → l.k ≤ k → get_or l.out k 0 ≡ 0)
    × (l.k ≤ l.count)

use Rattle.std.proofs.Common.{◌≡◌, ℕ, ◌<◌, ◌≤◌, get_or}
use Rattle.galois.specs.Gf.{inverse_of}
use Rattle.goppa.specs.Checks.{value}
use Rattle.goppa.specs.Loading.{entry_in, support_in}
use Rattle.goppa.proofs.bytes.invert_values.Given as goal

abbrev pub invariant-loop-j : goal.invariant-loop-j
invariant-loop-j g l =
    let s = l.g.elements.key.set in
    let bs = l.g.elements.key.bytes.now in
    ((k : ℕ) → k < l.j → get_or l.out k 0 ≡ inverse_of s.m s.f (value s.m s.f s.t (entry_in bs) (support_in s.t bs k)))
    × ((k : ℕ) → l.j ≤ k → get_or l.out k 0 ≡ 0)
    × (l.j ≤ s.n)

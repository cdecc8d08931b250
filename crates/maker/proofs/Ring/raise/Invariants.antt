use Rattle.std.proofs.Common.{◌≡◌, ℕ, ◌<◌, bit_xor, drop, get_or}
use Rattle.galois.specs.Gf.{times}
use Rattle.maker.specs.Maker.{low_of}
use Rattle.maker.proofs.Ring.raise.Given as goal

abbrev pub invariant-loop-term : goal.invariant-loop-term
invariant-loop-term g l =
    let s = l.self.set in
    (i : ℕ) → i < s.t → bit_xor (get_or l.p i 0) (times s.m s.f l.top (low_of (drop l.term-index s.terms) i)) ≡ bit_xor (get_or l.initial.p i 0) (times s.m s.f l.top (low_of s.terms i))

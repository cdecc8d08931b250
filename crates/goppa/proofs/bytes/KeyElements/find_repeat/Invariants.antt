use Rattle.std.proofs.Common.{◌≡◌, ℕ, ◌<◌, false}
use Rattle.goppa.specs.Loading.{support_in, repeated}
use Rattle.bits.specs.Bits.{bits_of}
use Rattle.goppa.proofs.Repeats.{Seen}
use Rattle.goppa.proofs.bytes.KeyElements.find_repeat.Given as goal

abbrev pub invariant-loop-j : goal.invariant-loop-j
invariant-loop-j l =
    let a = support_in l.self.key.set.t l.self.key.bytes.now in
    Seen a l.j (bits_of l.map) × ((k : ℕ) → k < l.j → repeated a k ≡ false)

use Rattle.std.proofs.Common.{◌≡◌, ◌+◌, ◌-◌}
use Rattle.bits.specs.Bits.{bits_of, low}
use Rattle.block.proofs.row.word_at.Given as goal

abbrev pub invariant-loop-b : goal.invariant-loop-b
invariant-loop-b l = l.word ≡ low (l.m - l.b) (λ k. bits_of l.v (l.at + l.b + k))

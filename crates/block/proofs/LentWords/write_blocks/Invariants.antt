use Rattle.std.proofs.Common.{◌≡◌, ℕ, ◌*◌, ◌<◌, get_or}
use Rattle.bits.specs.Bits.{byte_at, bytes_for}
use Rattle.block.specs.Lanes.{parity_of}
use Rattle.block.specs.Slots.{rows_of, column_crossed}
use Rattle.block.proofs.LentWords.write_blocks.Given as goal

abbrev pub invariant-loop-b : goal.invariant-loop-b
invariant-loop-b l =
    let n = rows_of l.self.slot.now in
    (k : ℕ) → k < 4 * l.b → k < bytes_for n → get_or l.out k 0 ≡ byte_at n (λ j. parity_of (column_crossed l.self.slot.now l.self.words.now j)) k

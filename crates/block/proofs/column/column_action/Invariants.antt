use Rattle.std.proofs.Common.{◌≡◌, ℕ, ◌*◌, ◌<◌, get_or}
use Rattle.matrix.specs.Matrix.{sum}
use Rattle.bits.specs.Bits.{bits_of}
use Rattle.block.specs.Slots.{column_word}
use Rattle.block.proofs.column.column_action.Given as goal

abbrev pub invariant-loop-j : goal.invariant-loop-j
invariant-loop-j l =
    (l.sum.slot.now ≡ l.slot)
    × ((i : ℕ) → i < l.slot.set.t → get_or l.sum.words.now i 0 ≡ sum l.j (λ j. bits_of l.v j * column_word l.slot j i))

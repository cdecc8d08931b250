use Rattle.std.proofs.Common.{◌≡◌, [], ◌∷◌, length, set, Ok, sym, ◌∙◌}
use Rattle.bits.specs.Bits.{bits_of}
use Rattle.operator.proofs.Chains.{answer-lengths, one_byte, zero-columns}
use Rattle.operator.specs.Actions.{answer}
use Rattle.operator.proofs.pair.zero_action.Goals as goal

pub returns : goal.returns
returns c =
    let v = c.args.v.now in
    let out = c.args.out.now in
    let result : Ok tt ≡ answer 1 (length v) (length out) = sym c.in_ok-check_lengths.was ∙ c.check_lengths.ensures in
    let byte : set out 0 0 ≡ 0 ∷ [] = one_byte out 0 (answer-lengths 1 (length v) (length out) (sym result)).1 in
    record { result = result; written = byte ∙ zero-columns (bits_of v) }

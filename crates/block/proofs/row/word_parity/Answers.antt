use Rattle.std.proofs.Common.{◌≡◌, ◌/◌, ◌%◌, ◌<◌, get_or, sym, ap, ◌∙◌, subst, ap₂, arith}
use lib.Bits.{bit_xor}
use Rattle.matrix.specs.Matrix.{sum}
use Rattle.bits.specs.Bits.{bit_of}
use Rattle.block.specs.Lanes.{parity_of}
use Rattle.block.proofs.Words.{odd-halves, odd-lt}
use Rattle.block.proofs.row.word_parity.Goals as goal

pub returns : goal.returns
returns c =
    let x = c.args.x in
    let xs = c.to_le_bytes.result in
    let low : get_or xs 0 0 ≡ x % 256 = ap (λ ys. get_or ys 0 0) c.to_le_bytes.ensures in
    let high : get_or xs 1 0 ≡ x / 256 = ap (λ ys. get_or ys 1 0) c.to_le_bytes.ensures ∙ omega arith in
    let value : bit_xor c.parity.result c.parity-2.result ≡ parity_of x =
    ap₂ bit_xor (c.parity.ensures ∙ ap (λ b. sum 8 (bit_of b)) low) (c.parity-2.ensures ∙ ap (λ b. sum 8 (bit_of b)) high) ∙ odd-halves x in
    record { value = value; small = subst (λ y. y < 2) (sym value) (odd-lt x) }

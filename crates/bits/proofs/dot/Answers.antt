use Rattle.std.proofs.Common.{◌≡◌, ◌%◌, min, arith}
use lib.Bits.{and_mask}
use Rattle.std.proofs.lemmas.List.{get_or-drop}
use Rattle.galois.specs.Bit.{both}
use Rattle.matrix.specs.Matrix.{sum}
use Rattle.bits.specs.Bits.{bits_of, bits_from}
use Rattle.bits.proofs.Packs.{sum_lt}
use Rattle.bits.proofs.Bytes.{dot-from, dot-whole}
use Rattle.bits.proofs.dot.Goals as goal

pub returns : goal.returns
returns c =
    let n = c.args.n in
    let small : min (n % 8) 8 ≡ n % 8 = omega arith in
    let value : c.parity.result ≡ sum n (λ k. both (bits_from c.args.at c.args.rows.now k) (bits_of c.args.v.now k)) =
    rw (c.parity.ensures, c.products.ensures, c.first.ensures, c.byte_of.ensures, c.rest-row.ensures, dot-whole, get_or-drop, c.byte_of-2.ensures, c.mask.ensures, small, and_mask)
    (dot-from n c.args.at c.args.rows.now c.args.v.now) in
    record { value = value; small = rw value (sum_lt 1 n _ (λ k l. omega arith)) }

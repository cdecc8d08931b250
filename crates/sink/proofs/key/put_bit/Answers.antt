use Rattle.std.proofs.Common.{◌<◌, ap, ◌∙◌, arith}
use lib.Bits.{bit_xor, xor_lt}
use Rattle.std.proofs.lemmas.Nat.{shl_whole}
use Rattle.bits.specs.Bits.{bit_of}
use Rattle.sink.proofs.Keys.{bit-put}
use Rattle.sink.proofs.key.put_bit.Goals as goal

pub returns : goal.returns
returns c k l =
    let x = c.args.x in
    let b = c.args.b in
    let d = bit_xor c.bit_of.result c.args.bit in
    let small : d < 2 = xor_lt 1 c.bit_of.result c.args.bit c.bit_of.ensures.small c.requires.value in
    ap (λ y. bit_of (bit_xor x y) k) (shl_whole d 1 b 8 small (omega arith))
    ∙ bit-put x b c.args.bit d k (ap (λ y. bit_xor y c.args.bit) c.bit_of.ensures.value) small c.requires.place l

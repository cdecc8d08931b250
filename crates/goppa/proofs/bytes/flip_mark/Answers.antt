use Rattle.std.proofs.Common.{◌/◌, ◌%◌, get_or, set, ap, ◌∙◌, arith}
use lib.Bits.{bit_xor}
use Rattle.std.proofs.lemmas.Nat.{one_shl}
use Rattle.bits.specs.Bits.{bits_of}
use Rattle.goppa.proofs.Marks.{mark-flip}
use Rattle.goppa.proofs.bytes.flip_mark.Goals as goal

pub returns : goal.returns
returns c y =
    let bs = c.args.map.now in
    let x = c.args.x in
    ap (λ b. bits_of (set bs (x / 8) (bit_xor (get_or bs (x / 8) 0) b)) y) (one_shl (x % 8) 8 (omega arith)) ∙ mark-flip bs x y c.requires

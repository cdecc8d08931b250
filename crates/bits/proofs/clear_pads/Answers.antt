use Rattle.std.proofs.Common.{◌≡◌, ◌/◌, ◌%◌, min, length, get_or, arith}
use lib.Bits.{and_mask}
use Rattle.std.proofs.lemmas.Bool.{eq-eqb}
use Rattle.bits.specs.Bits.{bytes_for}
use Rattle.bits.proofs.Bytes.{pads-cleared, pads-none}
use Rattle.bits.proofs.clear_pads.Goals as goal

pub returns-then-r-ne0 : goal.returns-then-r-ne0
returns-then-r-ne0 c =
    let fit : length c.args.out.now ≡ bytes_for c.args.n = omega arith in
    let small : min (c.args.n % 8) 8 ≡ c.args.n % 8 = omega arith in
    rw (eq-eqb (length c.args.out.now) (bytes_for c.args.n) fit, c.mask.ensures, small, and_mask (get_or c.args.out.now (c.args.n / 8) 0) (c.args.n % 8)) (pads-cleared c.args.n c.args.out.now fit c.are_bytes.ensures c.if-r-ne0.true)

pub returns-else-r-ne0 : goal.returns-else-r-ne0
returns-else-r-ne0 c =
    let fit : length c.args.out.now ≡ bytes_for c.args.n = omega arith in
    rw eq-eqb (pads-none c.args.n c.args.out.now fit c.are_bytes.ensures c.if-r-ne0.false)

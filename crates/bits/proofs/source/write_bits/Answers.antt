use Rattle.std.proofs.Common.{◌≡◌, length, arith}
use Rattle.std.proofs.lemmas.Bool.{eq-eqb}
use Rattle.bits.specs.Bits.{bytes_for}
use Rattle.bits.proofs.Packs.{pack-from-bytes}
use Rattle.bits.proofs.source.write_bits.Goals as goal

pub returns : goal.returns
returns g c =
    let fit : length c.args.out.now ≡ bytes_for c.args.n = omega arith in
    rw eq-eqb (pack-from-bytes c.args.n (g.B.BitSource.vector c.args.b.now) c.loop-j.out (omega arith) (λ k h. c.loop-j.invariant k (omega arith)))

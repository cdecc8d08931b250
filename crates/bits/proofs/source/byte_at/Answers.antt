use Rattle.std.proofs.Common.{◌≡◌, ◌+◌, ◌*◌, arith}
use Rattle.bits.specs.Bits.{byte_at, pad_bit}
use Rattle.bits.proofs.Packs.{few-lt, low-more}
use Rattle.bits.proofs.source.byte_at.Goals as goal

pub overflow_mul-byte : goal.overflow_mul-byte
overflow_mul-byte g c =
    omega (arith, few-lt c.args.n (g.B.BitSource.vector c.args.b.now) (8 * c.args.j + c.loop-k.k) c.loop-k.k c.loop-k.byte c.loop-k-test.true c.loop-k.invariant)

pub overflow_add-byte : goal.overflow_add-byte
overflow_add-byte g c =
    omega (arith, few-lt c.args.n (g.B.BitSource.vector c.args.b.now) (8 * c.args.j + c.loop-k.k) c.loop-k.k c.loop-k.byte c.loop-k-test.true c.loop-k.invariant)

pub loop-k-preserved : goal.loop-k-preserved
loop-k-preserved g c =
    low-more 8 c.loop-k.k (8 * c.args.j) (pad_bit c.args.n (g.B.BitSource.vector c.args.b.now)) c.loop-k.byte c.padded.result
    c.loop-k-test.true c.loop-k.auto.k c.loop-k.invariant c.padded.ensures.value

pub returns : goal.returns
unfolding byte_at
returns g c =
    let end : c.loop-k.k ≡ 0 = omega arith in
    let at : 8 * c.args.j + c.loop-k.k ≡ 8 * c.args.j = omega arith in
    rw (at, end) at c.loop-k.invariant

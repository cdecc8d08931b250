use Rattle.std.proofs.Common.{refl, ap, ◌∙◌, arith, slice_index}
use lib.Bits.{bit_xor}
use Rattle.maker.specs.Maker.{low_of}
use Rattle.maker.proofs.Field.{tied, same-product}
use Rattle.maker.proofs.Product.{climb-start, climb-step, climb-end}
use Rattle.maker.proofs.Ring.multiply.Goals as goal

pub loop-x-init : goal.loop-x-init
loop-x-init g c =
    let s = c.args.self.now.set in
    climb-start s.m s.f s.t (low_of s.terms) (slice_index c.args.a.now) (slice_index c.args.s.now) (slice_index c.fill.new.self) (λ i l. c.fill.ensures.clones i 0 (omega arith) refl)

pub loop-x-preserved : goal.loop-x-preserved
loop-x-preserved g c =
    let s = c.args.self.now.set in
    let k = g.F.Field in
    let law = g.met.F.Field.laws in
    let same = c.args.self.now.same in
    climb-step k.arith s.m s.f (tied k.arith k.WIDTH k.REDUCER s.m s.f law.wide law.product same)
    s.t (low_of s.terms) (slice_index c.args.a.now) (slice_index c.args.s.now) s.some
    c.loop-x.x-index (slice_index c.loop-x.s) (slice_index c.loop-x.out) (slice_index c.raise.new.p) (slice_index c.add_scaled.new.out) c.loop-x.invariant
    (λ i l. c.add_scaled.ensures i (omega arith) ∙ ap (bit_xor (slice_index c.loop-x.out i)) (same-product k.WIDTH k.REDUCER s.m s.f (slice_index c.args.a.now c.loop-x.x-index) (slice_index c.loop-x.s i) same))
    c.raise.ensures

pub returns : goal.returns
returns g c =
    let s = c.args.self.now.set in
    let k = g.F.Field in
    let law = g.met.F.Field.laws in
    climb-end k.arith s.m s.f (tied k.arith k.WIDTH k.REDUCER s.m s.f law.wide law.product c.args.self.now.same)
    s.t (low_of s.terms) (slice_index c.args.a.now) (slice_index c.args.s.now) s.some
    c.loop-x.x-index (slice_index c.loop-x.s) (slice_index c.loop-x.out) (omega arith) c.requires.elements c.loop-x.invariant

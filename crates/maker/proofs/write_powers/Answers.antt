use Rattle.std.proofs.Common.{◌≡◌, ◌+◌, ◌*◌, ◌^◌, ◌<◌, length, sym, refl, ap, ◌∙◌, subst, mod-eq_of_lt, arith, slice_index}
use Rattle.galois.specs.Gf.{times}
use Rattle.quotient.specs.Quotient.{power}
use Rattle.solver.proofs.Rows.{row, with_row, row-long}
use Rattle.maker.specs.Maker.{low_of}
use Rattle.maker.proofs.Field.{tied}
use Rattle.maker.proofs.Powers.{FirstRows, one-written, elements, next, row-more}
use Rattle.maker.proofs.write_powers.Goals as goal

pub loop-j-init : goal.loop-j-init
loop-j-init g c =
    let s = c.args.ring.now.set in (
      λ a q l h. absurd (omega arith),
      one-written (times s.m s.f) s.t (low_of s.terms) (slice_index c.args.b.now) c.fill.new.self s.some (omega arith) (λ i l. c.fill.ensures.clones i 0 (omega arith) refl),
    )

pub multiply-requires-clause-elements : goal.multiply-requires-clause-elements
multiply-requires-clause-elements g c =
    let s = c.args.ring.now.set in
    let k = g.F.Field in
    let law = g.met.F.Field.laws in
    elements k.arith s.m s.f (tied k.arith k.WIDTH k.REDUCER s.m s.f law.wide law.product c.args.ring.now.same)
    s.t (low_of s.terms) (slice_index c.args.b.now) (slice_index c.loop-j.power) c.loop-j.j c.loop-j.invariant.1

pub loop-j-preserved : goal.loop-j-preserved
loop-j-preserved g c =
    let s = c.args.ring.now.set in
    let k = g.F.Field in
    let law = g.met.F.Field.laws in
    let same = c.args.ring.now.same in
    let low = low_of s.terms in
    let b = slice_index c.args.b.now in
    let p = slice_index c.loop-j.power in
    let j = c.loop-j.j in
    let xs = c.loop-j.table in
    let ys = c.write_row.new.row in
    let field = tied k.arith k.WIDTH k.REDUCER s.m s.f law.wide law.product same in
    let lt : j < s.t = omega arith in
    let lx : length xs ≡ s.t * s.t = omega (arith, c.requires.long.2) in
    let lm : length (row (length c.args.power.now) j xs) ≡ s.t = ap (λ n. length (row n j xs)) c.requires.long.1 ∙ row-long s.t j xs lt lx in (
      subst (λ n. FirstRows k.WIDTH k.number s.t (with_row n j xs ys) (power (times s.m s.f) s.t low b) (j + 1)) (sym c.requires.long.1)
          (row-more k.WIDTH k.number s.t (power (times s.m s.f) s.t low b) xs ys j lt lx (c.write_row.auto.row ∙ lm)
          (λ q l.
          c.write_row.ensures q (omega arith)
          ∙ mod-eq_of_lt (subst (λ w. p q < 2 ^ w) (sym same.0) (elements k.arith s.m s.f field s.t low b p j c.loop-j.invariant.1 q l))
          ∙ c.loop-j.invariant.1 q l)
          c.loop-j.invariant.0),
      next k.arith s.m s.f field s.t low b p (slice_index c.copy_from_slice.new.self) j c.loop-j.invariant.1
          (λ i l. ap (λ zs. slice_index zs i) c.copy_from_slice.ensures.after ∙ c.multiply.ensures i l),
    )

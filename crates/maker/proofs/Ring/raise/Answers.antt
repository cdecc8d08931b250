use Rattle.std.proofs.Common.{ℕ, ◌∙◌, arith}
use Rattle.std.proofs.lemmas.List.{length-set}
use Rattle.params.specs.Sets.{none}
use Rattle.maker.proofs.Field.{tied, same-product}
use Rattle.maker.proofs.Terms.{power-below, moved-up, step, made}
use Rattle.maker.proofs.Ring.raise.Goals as goal

pub offset_bounds-p-term : goal.offset_bounds-p-term
offset_bounds-p-term g c = let s = c.args.self.now.set in omega (arith, power-below s.m s.t s.terms c.loop-term.term-index none s.reduced (omega arith))

pub bounds-p-term : goal.bounds-p-term
bounds-p-term g c = let s = c.args.self.now.set in omega (arith, power-below s.m s.t s.terms c.loop-term.term-index none s.reduced (omega arith), length-set {A = ℕ})

pub bounds-p-term-in-loop-term : goal.bounds-p-term-in-loop-term
bounds-p-term-in-loop-term g c = let s = c.args.self.now.set in omega (arith, power-below s.m s.t s.terms c.loop-term.term-index none s.reduced (omega arith), length-set {A = ℕ})

pub loop-term-preserved : goal.loop-term-preserved
loop-term-preserved g c i l =
    let s = c.args.self.now.set in
    let k = g.F.Field in
    let law = g.met.F.Field.laws in
    let same = c.args.self.now.same in
    step k.arith s.m s.f (tied k.arith k.WIDTH k.REDUCER s.m s.f law.wide law.product same)
    c.loop-term.p s.terms c.loop-term.term-index none _ c.mul.result i (omega arith)
    (omega (arith, power-below s.m s.t s.terms c.loop-term.term-index none s.reduced (omega arith), length-set {A = ℕ}))
    (c.mul.ensures ∙ same-product k.WIDTH k.REDUCER s.m s.f _ _ same)
    ∙ c.loop-term.invariant i l

pub returns : goal.returns
returns g c i l =
    let s = c.args.self.now.set in
    let k = g.F.Field in
    let law = g.met.F.Field.laws in
    made k.arith s.m s.f (tied k.arith k.WIDTH k.REDUCER s.m s.f law.wide law.product c.args.self.now.same)
    s.t c.loop-term.p c.args.p.now _ s.terms c.loop-term.term-index i (omega arith) (c.loop-term.invariant i l)
    (moved-up s.t c.args.p.now c.copy_within.new.self (omega arith) c.copy_within.ensures.by_index.0 i l)

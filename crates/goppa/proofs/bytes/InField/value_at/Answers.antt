use Rattle.std.proofs.Common.{◌∙◌, ap₂, arith}
use Rattle.galois.specs.Gf.{times}
use Rattle.goppa.specs.Loading.{entry_in}
use Rattle.goppa.proofs.Horner.{upper-start, upper-step, upper-end}
use Rattle.goppa.proofs.bytes.InField.value_at.Goals as goal

pub loop-i-init : goal.loop-i-init
loop-i-init g c =
    let key = c.args.self.now.elements.key in
    upper-start key.set.m key.set.f key.set.t c.args.x (entry_in key.bytes.now)

pub loop-i-preserved : goal.loop-i-preserved
loop-i-preserved g c =
    let f = g.F.Field in
    let l = g.met.F.Field.laws in
    let same = c.args.self.now.same in
    let key = c.args.self.now.elements.key in
    upper-step f.arith key.set.m key.set.f (l.wide ∙ same.0) (λ x y. l.product x y ∙ ap₂ (λ m r. times m r x y) same.0 same.1)
    key.set.t c.loop-i.i c.args.x c.loop-i.r c.mul.result c.entry.result (entry_in key.bytes.now)
    (omega arith) (omega arith) (c.args.self.now.elements.small _ (omega arith)) c.loop-i.invariant
    (c.mul.ensures ∙ ap₂ (λ m r. times m r c.args.x c.loop-i.r) same.0 same.1) c.entry.ensures

pub returns : goal.returns
returns g c =
    let key = c.args.self.now.elements.key in
    upper-end key.set.m key.set.f key.set.t c.loop-i.i c.args.x c.loop-i.r (entry_in key.bytes.now) c.loop-i-test.false c.loop-i.invariant

use Rattle.std.proofs.Common.{true, false, sym, ◌∙◌, rules, arith, below_more}
use Rattle.std.proofs.lemmas.Bool.{eq-eqb, ne_eqb}
use Rattle.goppa.specs.Loading.{support_in, repeated}
use Rattle.bits.specs.Bits.{bits_of}
use Rattle.matrix.proofs.Searches.{found-is, found-none}
use Rattle.goppa.proofs.Repeats.{seen_none, seen_more, seen-tells}
use Rattle.goppa.proofs.bytes.KeyElements.find_repeat.Goals as goal

pub loop-j-init : goal.loop-j-init
loop-j-init c =
    let key = c.args.self.now.key in
    (seen_none (support_in key.set.t key.bytes.now) (bits_of c.args.map.now) c.requires.clear, search rules)

pub returns-then-get_bit-eq1 : goal.returns-then-get_bit-eq1
returns-then-get_bit-eq1 c =
    let key = c.args.self.now.key in
    let a = support_in key.set.t key.bytes.now in
    let q = seen-tells a c.loop-j.j _ (bits_of c.loop-j.map) true c.loop-j.invariant.0 (c.from-x.ensures ∙ c.point.ensures) (sym (eq-eqb _ 1 (sym c.get_bit.ensures.value ∙ c.if-get_bit-eq1.true))) in
    found-is key.set.n c.loop-j.j (repeated a) c.loop-j-test.true c.loop-j.invariant.1 q

pub loop-j-preserved : goal.loop-j-preserved
loop-j-preserved c =
    let key = c.args.self.now.key in
    let a = support_in key.set.t key.bytes.now in
    let q = seen-tells a c.loop-j.j _ (bits_of c.loop-j.map) false c.loop-j.invariant.0 (c.from-x.ensures ∙ c.point.ensures) (sym (ne_eqb _ 1 (λ e. c.if-get_bit-eq1.false (c.get_bit.ensures.value ∙ e)))) in (
      seen_more a c.loop-j.j _ (bits_of c.loop-j.map) _ c.loop-j.invariant.0 (c.from-x.ensures ∙ c.point.ensures) q c.flip_mark.ensures,
      below_more _ _ c.loop-j.invariant.1 q,
    )

pub returns : goal.returns
returns c =
    let key = c.args.self.now.key in
    found-none key.set.n (repeated (support_in key.set.t key.bytes.now)) (λ k h. c.loop-j.invariant.1 k (omega (arith)))

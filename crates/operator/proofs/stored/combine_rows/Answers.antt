use Rattle.std.proofs.Common.{◌≡◌, zero-mul, one-mul, refl, ◌∙◌, arith, rules}
use lib.Bits.{xor_zero_r}
use lib.ListN.{get_or-replicate}
use Rattle.operator.proofs.Chunks.{combined-none, combined-more, combined-all}
use Rattle.operator.proofs.stored.combine_rows.Goals as goal

pub loop-i-init : goal.loop-i-init
loop-i-init c = combined-none (cc) (cc) (cc) (omega arith) (λ j l. search (rules, get_or-replicate))

pub loop-i-preserved-then-get_bit-eq1 : goal.loop-i-preserved-then-get_bit-eq1
loop-i-preserved-then-get_bit-eq1 c =
    let s = c.in-Some.ensures.steps in
    combined-more c.args.m.whole c.loop-i.invariant c.in-Some.row.now c.args.m.some.0 s.0.0 s.0.1 s.1 s.2 c.get_bit.ensures.value (omega arith)
    (λ j l. rw (c.if-get_bit-eq1.true, one-mul) (c.xor_row.ensures j l))

pub loop-i-preserved : goal.loop-i-preserved
loop-i-preserved c =
    let s = c.in-Some.ensures.steps in
    let none : c.get_bit.result ≡ 0 = omega (arith, c.get_bit.ensures.small) in
    combined-more c.args.m.whole c.loop-i.invariant c.in-Some.row.now c.args.m.some.0 s.0.0 s.0.1 s.1 s.2 c.get_bit.ensures.value refl
    (λ j l. rw (none, zero-mul, xor_zero_r))

pub returns : goal.returns
returns c = c.clear_pads.ensures ∙ combined-all c.args.m.whole c.loop-i.invariant c.in-None.ensures.steps.0.1.0

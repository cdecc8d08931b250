use Rattle.std.proofs.Common.{◌≡◌, sym, subst, arith}
use Rattle.bits.specs.Bits.{pack}
use Rattle.key.specs.declared.sizes.Sizes.{Sizes}
use Rattle.audit.specs.Verdicts.{Differs}
use Rattle.audit.specs.Solving.{product}
use Rattle.audit.proofs.Found.{column-bit, agrees-more, differs-at}
use Rattle.audit.proofs.wrong_bit.Goals as goal

pub returns-in-Some : goal.returns-in-Some
returns-in-Some g c =
    let s = c.set-n.result in
    let H = g.K.Key.checks c.args.key.now in
    let inverse = c.args.inverse.now in
    let column = c.loop-c.c in
    let own = c.make_column.new.own in
    let made = subst (λ (z : Sizes). own ≡ pack z.rows (λ i. product z.rows inverse H i column)) (sym c.set-n.ensures) c.make_column.ensures in
    let found = c.in-Some.ensures in
    subst (λ (z : Sizes). Differs z.rows z.rest c.args.published.now (product z.rows inverse H) column c.in-Some.i) c.set-n.ensures
    (differs-at s.rows s.rest column c.in-Some.i c.args.published.now own (product s.rows inverse H) (omega arith) c.loop-c.invariant
    (column-bit s.rows column inverse own H made) found.0 found.1 found.2)

pub loop-c-preserved : goal.loop-c-preserved
loop-c-preserved g c =
    let s = c.set-n.result in
    let H = g.K.Key.checks c.args.key.now in
    let inverse = c.args.inverse.now in
    let column = c.loop-c.c in
    let own = c.make_column.new.own in
    let made = subst (λ (z : Sizes). own ≡ pack z.rows (λ i. product z.rows inverse H i column)) (sym c.set-n.ensures) c.make_column.ensures in
    agrees-more s.rows s.rest column c.args.published.now own (product s.rows inverse H) c.loop-c.invariant c.in_default.ensures (column-bit s.rows column inverse own H made)

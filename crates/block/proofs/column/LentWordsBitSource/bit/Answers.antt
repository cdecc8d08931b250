use Rattle.std.proofs.Common.{◌/◌, ◌%◌, sym, ap, ◌∙◌, arith}
use Rattle.std.proofs.lemmas.Bool.Decides.{nat_tests}
use Rattle.std.proofs.lemmas.List.{get_or_past}
use Rattle.bits.specs.Bits.{bit_of}
use Rattle.bits.proofs.Packs.{bit-zero}
use Rattle.block.proofs.column.LentWordsBitSource.bit.Goals as goal

pub returns-then-at-self-clause-value : goal.returns-then-at-self-clause-value
unfolding bit_of
returns-then-at-self-clause-value c = grind (arith, nat_tests)

pub returns-else-at-self-clause-value : goal.returns-else-at-self-clause-value
returns-else-at-self-clause-value c =
    let s = c.args.self.now in
    let m = s.slot.now.set.m in
    let i = c.args.i in
    sym (ap (λ x. bit_of x (i % m)) (get_or_past s.words.now (i / m) 0 (omega arith)) ∙ bit-zero (i % m))

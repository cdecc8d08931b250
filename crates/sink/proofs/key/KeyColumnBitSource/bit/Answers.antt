use Rattle.std.proofs.Common.{ltb, sym, ◌∙◌}
use Rattle.std.proofs.lemmas.Bool.{cond-true, lt-ltb}
use Rattle.bits.specs.Bits.{of_rows}
use Rattle.sink.proofs.key.KeyColumnBitSource.bit.Goals as goal

pub returns-then-i-self-clause-value : goal.returns-then-i-self-clause-value
unfolding of_rows
returns-then-i-self-clause-value c =
    let s = c.args.self.now in
    rw (c.bytes_for-w.ensures) at c.bit_of.ensures.value ∙ sym (cond-true (ltb c.args.i s.shape.size) _ _ (lt-ltb c.args.i s.shape.size c.if-i-self.true))

use Rattle.std.proofs.Common.{◌*◌, sym, ◌∙◌, inl, inr, arith}
use Rattle.std.proofs.lemmas.Bool.{cases_lt}
use Rattle.bits.proofs.Units.{byte-right}
use Rattle.bits.proofs.right_bytes.Goals as goal

pub loop-j-preserved : goal.loop-j-preserved
loop-j-preserved c k h =
    let j = c.loop-j.j in
    elim (cases_lt k (8 * j)) [
      | inl l ↦ c.loop-j.invariant k l
      | inr l ↦ byte-right c.args.v.now c.args.i j k (sym c.byte_of.ensures ∙ c.if-byte_of-unit_byte.false ∙ c.unit_byte.ensures) (omega arith)
    ]

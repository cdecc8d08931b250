use Rattle.std.proofs.Common.{◌<◌, ◌≢◌, length, refl, ◌∙◌, ap₂, arith, get_or-set_other, get_or-set_same, below_more}
use lib.Bits.{bit_xor}
use Rattle.block.proofs.Words.{scaled-none, scaled-more}
use Rattle.block.proofs.column.add_powers.Goals as goal

pub loop-word-init : goal.loop-word-init
loop-word-init g c =
    (λ k h. absurd (omega arith), λ k h. refl, scaled-none g.F.Field.WIDTH g.F.Field.REDUCER c.args.x c.args.y)

pub loop-word-preserved : goal.loop-word-preserved
loop-word-preserved g c =
    let i = c.loop-word.word-index in
    let lt : i < length c.loop-word.words = omega arith in (
      below_more _ _
          (λ k h. let ne : k ≢ i = omega arith in rw get_or-set_other (c.loop-word.invariant.0 k h))
          (rw get_or-set_same (ap₂ bit_xor (c.loop-word.invariant.1 i (omega arith)) c.loop-word.invariant.2)),
      λ k h. let ne : k ≢ i = omega arith in rw get_or-set_other (c.loop-word.invariant.1 k (omega arith)),
      c.mul-power.ensures ∙ scaled-more g.F.Field.WIDTH g.F.Field.REDUCER c.args.x c.args.y i c.loop-word.power c.loop-word.invariant.2,
    )

use Rattle.std.proofs.Common.{get_or, refl, ap, ◌∙◌}
use Rattle.galois.specs.Gf.{times}
use Rattle.block.proofs.Words.{crossed-none, crossed-more, scaled-none, scaled-more}
use Rattle.block.proofs.row.cross.Goals as goal

pub loop-word-init : goal.loop-word-init
loop-word-init g c =
    let m = g.F.Field.WIDTH in
    let f = g.F.Field.REDUCER in
    let old = c.args.lanes.now in (
      refl,
      λ k h. c.requires k h ∙ crossed-none m f c.args.words.now (get_or old.xs k 0) (get_or old.powers k 0),
      λ k h. scaled-none m f (get_or old.xs k 0) (get_or old.powers k 0),
    )

pub loop-word-preserved : goal.loop-word-preserved
loop-word-preserved g c =
    let m = g.F.Field.WIDTH in
    let f = g.F.Field.REDUCER in
    let old = c.args.lanes.now in
    let was = c.loop-word.lanes in
    let i = c.loop-word.word-index in (
      c.advance.ensures.xs ∙ c.loop-word.invariant.0,
      λ k h. c.advance.ensures.sums k h ∙ crossed-more m f i c.args.words.now (get_or old.xs k 0) (get_or old.powers k 0) (get_or was.sums k 0) (get_or was.powers k 0) (c.loop-word.invariant.1 k h) (c.loop-word.invariant.2 k h),
      λ k h. c.advance.ensures.powers k h
          ∙ ap (λ xs. times m f (get_or xs k 0) (get_or was.powers k 0)) c.loop-word.invariant.0
          ∙ scaled-more m f (get_or old.xs k 0) (get_or old.powers k 0) i (get_or was.powers k 0) (c.loop-word.invariant.2 k h),
    )

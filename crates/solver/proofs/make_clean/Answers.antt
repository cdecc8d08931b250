use Rattle.std.proofs.Common.{◌%◌, ◌^◌, ◌<◌, length, sym, ap, ◌∙◌, subst, arith}
use Rattle.field.proofs.Cells.{low-lt}
use Rattle.solver.proofs.Grid.{entries-map, map-low, cell-clean}
use Rattle.solver.proofs.make_clean.Goals as goal

pub loop-x-preserved : goal.loop-x-preserved
loop-x-preserved g c =
    let f = g.F.Field in
    let w = f.WIDTH in
    let k = c.loop-x.x-index in
    let lt : k < length c.loop-x.cells = omega arith in (
      map-low w f.number c.loop-x.cells k _ c.of.result lt (c.of.ensures ∙ ap (λ v. v % 2 ^ w) c.get.ensures) ∙ c.loop-x.invariant.0,
      λ q d h. cell-clean w f.number c.loop-x.cells k q c.of.result d (omega arith) (subst (λ v. v < 2 ^ w) (sym c.of.ensures) (low-lt w c.get.result)) (λ ne. c.loop-x.invariant.1 q d (omega arith)),
    )

pub returns-clause-made : goal.returns-clause-made
returns-clause-made g c n = entries-map g.F.Field.WIDTH g.F.Field.number n c.loop-x.cells c.args.cells.now c.loop-x.invariant.0

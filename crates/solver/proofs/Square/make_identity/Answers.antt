use Rattle.std.proofs.Common.{◌+◌, ◌*◌, ◌%◌, ◌^◌, ◌<◌, length, sym, ap, ◌∙◌, subst, arith, rules}
use Rattle.std.proofs.lemmas.Nat.{mul-add-lt}
use Rattle.field.proofs.Cells.{low-lt}
use Rattle.solver.proofs.Grid.{entries-set, entries-other, clean-set, entries-zero, clean-zero, low-low, one-low}
use Rattle.solver.proofs.Loops.{unit-more}
use Rattle.solver.proofs.Square.make_identity.Goals as goal

pub offset_bounds-cells-i : goal.offset_bounds-cells-i
offset_bounds-cells-i g c =
    let n = c.args.self.now.order in
    let i = c.loop-i.i in
    let lt = c.loop-i-test.true in
    let q : i * n + i < length c.loop-i.cells = omega (arith, mul-add-lt i n i n lt lt, c.args.self.now.square, c.make_zero.auto.cells, c.loop-i.auto.cells) in
    search rules

pub loop-i-init : goal.loop-i-init
loop-i-init g c =
    let f = g.F.Field in (
      record {
        done = λ a j ha hj h. omega arith;
        rest = λ a j ha hj h. entries-zero f.WIDTH f.number c.args.self.now.order c.make_zero.new.cells c.make_zero.ensures.zero a j;
      },
      clean-zero f.WIDTH f.number c.make_zero.new.cells c.make_zero.ensures.zero,
    )

pub loop-i-preserved : goal.loop-i-preserved
loop-i-preserved g c =
    let f = g.F.Field in
    let w = f.WIDTH in
    let n = c.args.self.now.order in
    let i = c.loop-i.i in
    let lt = c.loop-i-test.true in (
      unit-more n _ _ i _ lt (ap (λ v. v % 2 ^ w) c.of.ensures ∙ low-low w 1 ∙ one-low f.arith w g.met.F.Field.laws.wide)
          (entries-set w f.number n c.loop-i.cells i i lt lt c.of.result (c.loop-i.auto.cells ∙ c.make_zero.auto.cells ∙ c.args.self.now.square))
          (λ a b ha hb ne. entries-other w f.number n c.loop-i.cells i i lt lt c.of.result a b hb ne) c.loop-i.invariant.0,
      clean-set w f.number c.loop-i.cells _ c.of.result (subst (λ v. v < 2 ^ w) (sym c.of.ensures) (low-lt w 1)) c.loop-i.invariant.1,
    )

use Rattle.std.proofs.Common.{◌≡◌, length, sym, refl, ap, ap₂, ◌∙◌, arith, slice_index}
use Rattle.galois.specs.Gf.{times}
use Rattle.matrix.specs.Matrix.{sum}
use Rattle.goppa.specs.Loading.{entry_in}
use Rattle.solver.specs.Cells.{entries}
use Rattle.solver.proofs.Grid.{entries-elements}
use Rattle.maker.specs.Maker.{low_of}
use Rattle.maker.proofs.Field.{tied}
use Rattle.maker.proofs.Found.{root-found, dependent-found}
use Rattle.maker.proofs.solve_in.Goals as goal

pub returns-in-Ok-Inverse : goal.returns-in-Ok-Inverse
returns-in-Ok-Inverse g c =
    let s = c.args.set in
    let k = g.F.Field in
    let law = g.met.F.Field.laws in
    let same = c.requires.same in
    let p = slice_index c.write_powers.new.power in
    let inverse = c.invert.new.inverse in
    let found = rw c.in-Ok-Inverse.field-0-is at c.in-Ok-Inverse.ensures.solves in
    let long : length c.write_powers.new.power ≡ s.t = omega arith in
    root-found k.arith s.m s.f (tied k.arith k.WIDTH k.REDUCER s.m s.f law.wide law.product same)
    s.t (low_of s.terms) (entry_in c.args.entries.now) (slice_index c.read_entries.new.out) (λ i l. sym (c.read_entries.ensures i (omega arith)))
    (entries k.WIDTH k.number s.t c.write_powers.new.table) (entries k.WIDTH k.number s.t inverse) c.write_powers.ensures.rows
    p (entry_in c.write_root.new.out) c.write_powers.ensures.last found.left found.right
    (λ j l.
    c.write_root.ensures j (omega arith)
    ∙ ap (λ n. sum n (λ i. times k.WIDTH k.REDUCER (p i) (entries k.WIDTH k.number n inverse i j))) long
    ∙ ap₂ (λ w r. sum s.t (λ i. times w r (p i) (entries k.WIDTH k.number s.t inverse i j))) same.0 same.1)

pub returns-in-Ok-Dependent : goal.returns-in-Ok-Dependent
returns-in-Ok-Dependent g c =
    let s = c.args.set in
    let k = g.F.Field in
    let law = g.met.F.Field.laws in
    let r = c.in-Ok-Dependent.field-0-0 in
    let inverse = c.invert.new.inverse in
    let vanishing = rw c.in-Ok-Dependent.field-0-is at c.in-Ok-Dependent.ensures.solves in (
      refl,
      refl,
      dependent-found k.arith s.m s.f (tied k.arith k.WIDTH k.REDUCER s.m s.f law.wide law.product c.requires.same)
          s.t (low_of s.terms) (entry_in c.args.entries.now) (slice_index c.read_entries.new.out) (λ i l. sym (c.read_entries.ensures i (omega arith)))
          (entries k.WIDTH k.number s.t c.write_powers.new.table) (entries k.WIDTH k.number s.t inverse) c.write_powers.ensures.rows
          (entries k.WIDTH k.number s.t inverse r) (entries-elements k.WIDTH k.number k.arith s.t inverse law.wide r) vanishing.combination,
    )

use Rattle.std.proofs.Common.{◌+◌, ◌*◌, set, refl, ap₂, add-one}
use Rattle.host.specs.Frames.{with_cells}
use Rattle.audit.proofs.keep_column.Goals as goal

pub loop-i-init : goal.loop-i-init
unfolding with_cells
loop-i-init c = refl

pub loop-i-preserved : goal.loop-i-preserved
unfolding with_cells
loop-i-preserved c =
    rw add-one (ap₂ (λ l x. set l (c.loop-i.i * c.args.n + c.args.j) x) c.loop-i.invariant c.get_bit.ensures.value)

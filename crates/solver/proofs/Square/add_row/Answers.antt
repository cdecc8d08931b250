use Rattle.std.proofs.Common.{arith}
use Rattle.solver.proofs.Rows.{halves, low-row, low-write, high-row, high-write, row-written, row-added}
use Rattle.solver.proofs.Square.add_row.Goals as goal

-- row i lies in the first part, row r begins the second
pub invariant_of-self-clause-clean : goal.invariant_of-self-clause-clean
invariant_of-self-clause-clean g c =
    let h = halves c.split_at_mut-low.ensures.value c.split_at_mut-low.ensures.front_len c.if-i-r.true in
    row-written c.args.self.now c.args.i _ (low-row h) (low-write h c.add_scaled.new.row) c.requires.within.0 c.add_scaled.auto.row c.add_scaled.ensures.clean

pub returns-then-i-r-clause-made : goal.returns-then-i-r-clause-made
returns-then-i-r-clause-made g c =
    let h = halves c.split_at_mut-low.ensures.value c.split_at_mut-low.ensures.front_len c.if-i-r.true in
    row-added c.args.self.now c.args.i _ (low-row h) (low-write h c.add_scaled.new.row) c.requires.within.0 c.add_scaled.auto.row c.args.s c.args.r (high-row h) c.add_scaled.ensures.made

-- the other way round
pub returns-else-i-r-clause-made : goal.returns-else-i-r-clause-made
returns-else-i-r-clause-made g c =
    let h = halves c.split_at_mut-low-else-i-r.ensures.value c.split_at_mut-low-else-i-r.ensures.front_len (omega arith) in
    row-added c.args.self.now c.args.i _ (high-row h) (high-write h c.add_scaled-else-i-r.new.row) c.requires.within.0 c.add_scaled-else-i-r.auto.row c.args.s c.args.r (low-row h) c.add_scaled-else-i-r.ensures.made

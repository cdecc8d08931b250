use Rattle.session.proofs.Rows.{row-left, row_fits}
use Rattle.session.proofs.state.Open.take_row.Goals as goal

pub put_row-requires-clause-room : goal.put_row-requires-clause-room
put_row-requires-clause-room g c =
    let o = c.args.self.now in
    row_fits o.rows o.set.rows _ (row-left o.phase o.rows o.set.rows o.turn c.requires.set.1) c.requires.inverse

use Rattle.sink.proofs.Layouts.{told}
use Rattle.sink.proofs.columns.Columns.bytes.Goals as goal

pub returns-clause-holds : goal.returns-clause-holds
returns-clause-holds g c =
    let s = c.args.self.now in
    told g.L.Layout.by_columns s.shape.size s.shape.limit s.taken s.made s.bytes.now s.few s.exact c.are_bytes.ensures s.blank

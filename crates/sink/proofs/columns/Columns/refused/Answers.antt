use Rattle.sink.specs.Store.{matrix_in}
use Rattle.sink.proofs.Stores.{refused-is}
use Rattle.sink.proofs.columns.Columns.refused.Goals as goal

pub returns-clause-holds : goal.returns-clause-holds
returns-clause-holds g c =
    let xs = c.args.bytes.now in
    refused-is xs (matrix_in g.L.Layout.by_columns 1 0 xs)

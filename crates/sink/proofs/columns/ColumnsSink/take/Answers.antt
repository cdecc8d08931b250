use Rattle.std.proofs.Common.{arith}
use Rattle.sink.specs.Store.{matrix_in}
use Rattle.sink.proofs.Stores.{full, open-is-made}
use Rattle.sink.proofs.Layouts.{written-takes}
use Rattle.sink.proofs.columns.ColumnsSink.take.Goals as goal

pub returns-then-self-shape : goal.returns-then-self-shape
returns-then-self-shape g c =
    let s = c.args.self.now in
    full s.shape.size s.shape.limit s.taken s.made s.bytes.now (matrix_in g.L.Layout.by_columns s.shape.size s.shape.limit s.bytes.now)
    c.args.column.now (omega arith) c.if-self-shape.true

pub returns : goal.returns
returns g c =
    let s = c.args.self.now in
    written-takes g.L.Layout.by_columns s.shape.size s.shape.limit s.taken s.made s.bytes.now c.write.new.bytes c.args.column.now
    (open-is-made s.made s.taken s.shape.limit s.shut c.if-self-shape.false) (omega arith) c.if-self-shape.false c.write.ensures

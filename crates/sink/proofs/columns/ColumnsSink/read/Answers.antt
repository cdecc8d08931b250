use Rattle.std.proofs.Common.{arith}
use Rattle.sink.specs.Store.{matrix_in}
use Rattle.sink.proofs.Stores.{reads, absent}
use Rattle.sink.proofs.columns.ColumnsSink.read.Goals as goal

pub returns-then-j-self : goal.returns-then-j-self
returns-then-j-self g c =
    let s = c.args.self.now in
    absent s.shape.size s.shape.limit s.taken s.made s.bytes.now (matrix_in g.L.Layout.by_columns s.shape.size s.shape.limit s.bytes.now)
    c.args.j c.args.out.now (omega arith) c.if-j-self.true

pub returns : goal.returns
returns g c =
    let s = c.args.self.now in
    reads s.shape.size s.shape.limit s.taken s.made s.bytes.now (matrix_in g.L.Layout.by_columns s.shape.size s.shape.limit s.bytes.now)
    c.args.j c.args.out.now c.read.new.out (omega arith) c.if-j-self.false c.read.ensures

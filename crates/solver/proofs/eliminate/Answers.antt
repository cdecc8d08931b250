use Rattle.std.proofs.Common.{arith, rules}
use Rattle.solver.proofs.Joins.{inverted, vanished}
use Rattle.solver.proofs.eliminate.Goals as goal

pub returns-then-rank-n-clause-solves : goal.returns-then-rank-n-clause-solves
returns-then-rank-n-clause-solves g c =
    vanished c.cleaned-table.result c.make_identity.new.self c.do_columns-rank.new.self c.do_columns-rank.new.beside c.args.first.now g.met.F.Field.laws.wide c.cleaned-table.ensures.made c.make_identity.ensures.made c.do_columns-rank.ensures.state
    (omega arith) (omega arith) (omega arith) (omega arith) (search rules) c.if-rank-n.true

pub returns-else-rank-n-clause-solves : goal.returns-else-rank-n-clause-solves
returns-else-rank-n-clause-solves g c =
    inverted c.cleaned-table.result c.make_identity.new.self c.do_columns-rank.new.self c.do_columns-rank.new.beside c.args.first.now g.met.F.Field.laws.wide c.cleaned-table.ensures.made c.make_identity.ensures.made c.do_columns-rank.ensures.state
    (omega arith) (omega arith) (omega arith) (omega arith) (search rules) c.if-rank-n.false

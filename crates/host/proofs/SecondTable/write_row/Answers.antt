use Rattle.std.proofs.Common.{length, ◌∙◌, arith}
use Rattle.std.proofs.lemmas.Bool.{eq-eqb}
use Rattle.bits.specs.Bits.{bytes_for}
use Rattle.host.proofs.Tables.{row-packed}
use Rattle.host.proofs.SecondTable.write_row.Goals as goal

pub returns : goal.returns
returns c =
    let s = c.args.self.now in
    c.write_bits.ensures
    ∙ rw (eq-eqb (length c.args.out.now) (bytes_for s.n) c.requires.room) (row-packed s.n c.args.i _ s.cells.now s.square c.requires.within (omega arith))

use Rattle.std.proofs.Common.{sym, ap, ◌∙◌, arith}
use Rattle.std.proofs.lemmas.List.{get_or_past}
use Rattle.block.specs.Lanes.{parity_of}
use Rattle.block.proofs.Words.{odd-zero}
use Rattle.block.proofs.row.ParitiesBitSource.bit.Goals as goal

pub returns-else-i-self-clause-value : goal.returns-else-i-self-clause-value
returns-else-i-self-clause-value c = sym (ap parity_of (get_or_past c.args.self.now.words.now c.args.i 0 (omega arith)) ∙ odd-zero)

use Rattle.std.proofs.Common.{get_or, ap, ◌∙◌}
use lib.Bits.{bit_xor}
use Rattle.block.proofs.Shares.{scaled-share}
use Rattle.block.proofs.LentWords.add_column.Goals as goal

pub returns-clause-words : goal.returns-clause-words
returns-clause-words c i h =
    let s = c.args.self.now.slot.now in
    let j = c.args.j in
    c.add_powers_in.ensures i h
    ∙ ap (bit_xor (get_or c.args.self.now.words.now i 0)) (scaled-share s.set.m s.set.f s.set.t (λ k. get_or s.goppa k 0) (get_or s.support j 0) (get_or s.inverses j 0) i s.set.field (s.inverted j c.requires))

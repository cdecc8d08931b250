use Rattle.std.proofs.Common.{◌≡◌, ◌<◌, eqb, length, get_or, ap, ◌∙◌, arith, rules}
use Rattle.std.proofs.lemmas.Bool.{cond-true, eq-eqb}
use Rattle.std.proofs.lemmas.List.{get_or-replicate}
use lib.Bits.{bit_xor, xor_zero_l}
use Rattle.bits.specs.Bits.{bytes_for, pack}
use Rattle.block.specs.Lanes.{stacked}
use Rattle.block.specs.Slots.{rows_of, column_word}
use Rattle.block.proofs.Shares.{known-degree}
use Rattle.block.proofs.Actions.{stacked-column}
use Rattle.block.proofs.column.column.Goals as goal

pub returns : goal.returns
returns c =
    let s = c.args.slot.now in
    let j = c.args.j in
    let out = c.args.out.now in
    let start = c.new-column.result in
    let words = c.add_column.new.self.words.now in
    let same : start.slot.now ≡ s = c.new-column.ensures.slot in
    let now : c.add_column.new.self.slot.now ≡ s = c.add_column.ensures.slot ∙ same in
    let room : length out ≡ bytes_for c.rows-2.result = omega (arith, c.if-out-bytes_for.false, c.bytes_for.ensures, c.rows.ensures, c.rows-2.ensures) in
    record {
      result = search rules;
      written = c.write_bits.ensures
          ∙ cond-true (eqb (length out) (bytes_for c.rows-2.result)) _ _ (eq-eqb (length out) (bytes_for c.rows-2.result) room)
          ∙ ap (λ n. pack n (stacked c.add_column.new.self.slot.now.set.m words)) c.rows-2.ensures
          ∙ ap (λ x. pack (rows_of s) (stacked x.set.m words)) now
          ∙ stacked-column s.set.m s.set.f s.set.t (λ k. get_or s.goppa k 0) (λ k. get_or s.support k 0) words j (known-degree s.set.m s.set.f s.set.field).0
          (λ i h.
          let l : i < length start.words.now = omega (arith, start.long, ap (λ x. x.set.t) same) in
          c.add_column.ensures.words i l
          ∙ ap (λ x. bit_xor (get_or start.words.now i 0) (column_word x j i)) same
          ∙ ap (λ x. bit_xor x (column_word s j i)) (ap (λ xs. get_or xs i 0) c.new-column.ensures.zero ∙ get_or-replicate _ i 0 0 l)
          ∙ xor_zero_l _);
    }

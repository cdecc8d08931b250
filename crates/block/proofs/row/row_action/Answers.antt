use Rattle.std.proofs.Common.{◌≡◌, ◌*◌, ◌<◌, length, get_or, ap, ◌∙◌, arith, rules}
use Rattle.bits.specs.Bits.{pack}
use Rattle.bits.proofs.Packs.{pack-cong}
use Rattle.block.specs.Lanes.{word_of, crossed, parity_of}
use Rattle.block.specs.Slots.{rows_of, column_crossed}
use Rattle.block.proofs.Shares.{known-degree}
use Rattle.block.proofs.Actions.{crossed-row}
use Rattle.block.proofs.row.row_action.Goals as goal

pub returns : goal.returns
returns c =
    let s = c.args.slot.now in
    let m = s.set.m in
    let f = s.set.f in
    let t = s.set.t in
    let start = c.new-vector.result in
    let end = c.take.new.self in
    let words = end.words.now in
    let was : start.slot.now ≡ s = c.new-vector.ensures.slot in
    let same : end.slot.now ≡ s = c.take.ensures.slot ∙ was in
    let long : length words ≡ t = end.long ∙ ap (λ x. x.set.t) same in
    record {
      result = search rules;
      written = c.write_blocks.ensures.written
          ∙ ap (λ x. pack (rows_of x) (λ j. parity_of (column_crossed x words j))) same
          ∙ pack-cong (m * t) _ _ (λ j h.
          let within : j < s.set.n = omega (arith, s.set.columns) in
          ap (λ l. parity_of (crossed m f l words (get_or s.support j 0) (get_or s.inverses j 0))) long
          ∙ crossed-row m f t (λ k. get_or s.goppa k 0) (λ k. get_or s.support k 0) c.args.v.now words (get_or s.inverses j 0) j
          (known-degree m f s.set.field).0 s.set.wide s.set.field
          (λ i l. c.take.ensures.words i (omega (arith, ap (λ x. x.set.t) was)) ∙ ap (λ x. word_of x.set.m c.args.v.now i) was) (s.inverted j within));
    }

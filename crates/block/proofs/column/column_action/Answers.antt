use Rattle.std.proofs.Common.{◌≡◌, ℕ, ◌*◌, ◌<◌, eqb, length, get_or, sym, refl, ap, ◌∙◌, arith, rules}
use Rattle.std.proofs.lemmas.Bool.{cond-true, eq-eqb}
use Rattle.std.proofs.lemmas.List.{get_or-replicate}
use lib.Bits.{bit_xor}
use Rattle.matrix.specs.Matrix.{sum}
use Rattle.bits.specs.Bits.{bits_of, bytes_for, pack}
use Rattle.bits.proofs.Bytes.{row-added, row-skipped}
use Rattle.block.specs.Lanes.{stacked}
use Rattle.block.specs.Slots.{rows_of, column_word}
use Rattle.block.proofs.Shares.{known-degree}
use Rattle.block.proofs.Actions.{stacked-sum}
use Rattle.block.proofs.column.column_action.Goals as goal
use Rattle.block.proofs.column.column_action.Goals.{then-get_bit-eq1, else-get_bit-eq1}

pub loop-j-init : goal.loop-j-init
unfolding sum
loop-j-init c = (
  c.new-sum.ensures.slot,
  λ i h. ap (λ xs. get_or xs i 0) c.new-sum.ensures.zero ∙ get_or-replicate _ i 0 0 (omega (arith, c.new-sum.result.long, ap (λ x. x.set.t) c.new-sum.ensures.slot)),
)

pub loop-j-preserved : goal.loop-j-preserved
loop-j-preserved c =
    let s = c.args.slot.now in
    let v = c.args.v.now in
    let j = c.loop-j.j in
    let was = c.loop-j.sum in
    let same : was.slot.now ≡ s = c.loop-j.invariant.0 in
    elim c.if-get_bit-eq1.branch [
      | then-get_bit-eq1 w ↦ (
        ap (λ x. x.slot.now) w.sum-is ∙ w.add_column.ensures.slot ∙ same,
        λ i h.
            let q : ℕ → ℕ = λ k. column_word s k i in
            let l : i < length was.words.now = omega (arith, was.long, ap (λ x. x.set.t) same) in
            row-added j (λ k. bits_of v k * q k) (bits_of v j) (q j) (get_or was.words.now i 0) (get_or c.if-get_bit-eq1.sum.words.now i 0) refl
            (sym c.get_bit.ensures.value ∙ w.if-get_bit-eq1.true) (c.loop-j.invariant.1 i h)
            (ap (λ x. get_or x.words.now i 0) w.sum-is ∙ w.add_column.ensures.words i l ∙ ap (λ x. bit_xor (get_or was.words.now i 0) (column_word x j i)) same),
      )
      | else-get_bit-eq1 w ↦ (
        ap (λ x. x.slot.now) w.sum-is ∙ same,
        λ i h.
            let q : ℕ → ℕ = λ k. column_word s k i in
            let none : c.get_bit.result ≡ 0 = omega (arith, w.if-get_bit-eq1.false) in
            ap (λ x. get_or x.words.now i 0) w.sum-is
            ∙ row-skipped j (λ k. bits_of v k * q k) (bits_of v j) (q j) (get_or was.words.now i 0) refl (sym c.get_bit.ensures.value ∙ none) (c.loop-j.invariant.1 i h),
      )
    ]

pub returns : goal.returns
returns c =
    let s = c.args.slot.now in
    let v = c.args.v.now in
    let out = c.args.out.now in
    let words = c.loop-j.sum.words.now in
    let room : length out ≡ bytes_for c.rows-2.result = search rules in
    let end : c.loop-j.j ≡ rows_of s = omega arith in
    record {
      result = search rules;
      written = c.write_bits.ensures
          ∙ cond-true (eqb (length out) (bytes_for c.rows-2.result)) _ _ (eq-eqb (length out) (bytes_for c.rows-2.result) room)
          ∙ ap (λ n. pack n (stacked c.loop-j.sum.slot.now.set.m words)) c.rows-2.ensures
          ∙ ap (λ x. pack (rows_of s) (stacked x.set.m words)) c.loop-j.invariant.0
          ∙ stacked-sum s.set.m s.set.f s.set.t (λ k. get_or s.goppa k 0) (λ k. get_or s.support k 0) v words (known-degree s.set.m s.set.f s.set.field).0
          (λ i h. c.loop-j.invariant.1 i h
          ∙ ap (λ n. sum n (λ j. bits_of v j * column_word s j i)) end);
    }

use Rattle.std.proofs.Common.{◌≡◌, ℕ, ◌+◌, ◌-◌, ◌*◌, ◌/◌, ◌<◌, ◌≤◌, min, length, get_or, ap, ◌∙◌, inl, inr, arith}
use Rattle.std.proofs.lemmas.Bool.{cases_lt}
use Rattle.bits.specs.Bits.{byte_at, bytes_for}
use Rattle.bits.proofs.Packs.{pack-from-bytes, get_or-pack}
use Rattle.block.specs.Lanes.{parity_of}
use Rattle.block.specs.Slots.{rows_of, column_crossed}
use Rattle.block.proofs.Words.{part-byte, put-below, put-within}
use Rattle.block.proofs.LentWords.write_blocks.Goals as goal

pub loop-b-preserved : goal.loop-b-preserved
loop-b-preserved c =
    let s = c.args.self.now.slot.now in
    let n = rows_of s in
    let words = c.args.self.now.words.now in
    let block = c.loop-b.b in
    let first = 32 * block / 8 in
    let f : ℕ → ℕ = λ j. parity_of (column_crossed s words j) in
    let count : ℕ = c.min-count.result in
    let few : count ≡ min (n - 32 * block) 32 = c.min-count.ensures ∙ ap (λ n. min (n - 32 * block) 32) c.rows-n.ensures in
    let fill : c.bytes_for.result ≡ bytes_for count = c.bytes_for.ensures in
    let room : first ≤ length c.loop-b.out = omega arith in
    λ k h l. elim (cases_lt k first) [
      | inl below ↦ put-below first _ k c.loop-b.out c.write_block.new.out below room ∙ c.loop-b.invariant k (omega arith) l
      | inr above ↦
          let within : k - first < bytes_for count = omega arith in
          let same : length c.write_block.new.out ≡ bytes_for count = omega arith in
          put-within first _ k c.loop-b.out c.write_block.new.out above (omega arith) room
          ∙ ap (λ xs. get_or xs (k - first) 0) c.write_block.ensures
          ∙ get_or-pack count (λ i. f (32 * block + i)) (k - first) within
          ∙ part-byte n (32 * block) first count (k - first) f (omega arith) few within
          ∙ ap (byte_at n f) (let e : first + (k - first) ≡ k = omega arith in e)
    ]

pub returns : goal.returns
returns c =
    let s = c.args.self.now.slot.now in
    let n = rows_of s in
    let words = c.args.self.now.words.now in
    record {
      written = pack-from-bytes n (λ j. parity_of (column_crossed s words j)) c.loop-b.out (omega arith) (λ k h. c.loop-b.invariant k (omega arith) h);
      xs = c.clear.ensures.xs;
      powers = c.clear.ensures.powers;
      sums = c.clear.ensures.sums;
    }

use Rattle.std.proofs.Common.{◌≡◌, ◌+◌, ◌<◌, ◌≤◌, length, get_or, inl, inr, arith}
use lib.Bits.{xor_zero_r}
use Rattle.std.proofs.lemmas.Bool.{cases_lt}
use Rattle.std.proofs.lemmas.List.{get_or_past}
use Rattle.bits.proofs.Bytes.{part-byte}
use Rattle.bits.proofs.xor_row.Goals as goal

pub returns : goal.returns
returns c j l =
    let row = c.first-row.result.now in
    let in_out : j < length c.args.out.now = omega arith in
    let same : get_or row j 0 ≡ get_or c.args.rows.now (c.args.at + j) 0 = rw (c.first-row.ensures, c.rest.ensures, part-byte) in
    elim (cases_lt j c.loop-j.j) [
      | inl h ↦ rw (c.loop-j.invariant.0 j h, same)
      | inr h ↦ let past : length row ≤ j = omega arith in rw (c.loop-j.invariant.1 j h, ← same, get_or_past row j 0 past, xor_zero_r)
    ]

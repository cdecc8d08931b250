use Rattle.std.proofs.Common.{◌+◌, ◌-◌, ◌*◌, ◌^◌, ◌<◌, ◌≤◌, arith, pow_mono}
use Rattle.block.proofs.Words.{word_lt}
use Rattle.block.proofs.row.word_at.Goals as goal

pub overflow_mul-word : goal.overflow_mul-word
overflow_mul-word c =
    let v = c.args.v.now in
    let m = c.args.set.m in
    let at = c.args.i * m in
    let d = m - c.loop-b.b in
    let few : d ≤ 14 = omega (arith, c.args.set.wide) in
    let p : 2 ^ d ≤ 2 ^ 14 = pow_mono few in
    let w : c.loop-b.word < 2 ^ d = omega (arith, word_lt v (at + c.loop-b.b) d) in
    omega arith

pub overflow_add-word : goal.overflow_add-word
overflow_add-word c =
    let v = c.args.v.now in
    let m = c.args.set.m in
    let at = c.args.i * m in
    let d = m - c.loop-b.b in
    let few : d ≤ 14 = omega (arith, c.args.set.wide) in
    let p : 2 ^ d ≤ 2 ^ 14 = pow_mono few in
    let w : c.loop-b.word < 2 ^ d = omega (arith, word_lt v (at + c.loop-b.b) d) in
    omega arith

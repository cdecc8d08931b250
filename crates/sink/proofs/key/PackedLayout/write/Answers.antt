use Rattle.std.proofs.Common.{◌≡◌, ◌+◌, ◌*◌, ◌/◌, ◌%◌, ◌<◌, ◌≤◌, cond, eqb, length, get_or, ap, ◌∙◌, subst, suc-mul, mul-le-mul_right, arith}
use Rattle.bits.specs.Bits.{bit_of}
use Rattle.sink.proofs.Keys.{Put, Writing, key_step, key-written}
use Rattle.sink.proofs.key.PackedLayout.write.Goals as goal

pub loop-i-preserved : goal.loop-i-preserved
loop-i-preserved c =
    let w = c.bytes_for-w.result in
    let i = c.loop-i.i in
    let t = c.args.at in
    let v = c.args.column.now in
    let ys = c.loop-i.bytes in
    let room : c.args.shape.size * w ≤ length c.args.bytes.now = rw c.bytes_for-w.ensures c.requires.room in
    let fits : i * w + t / 8 < length ys = omega (arith, suc-mul i w, mul-le-mul_right w c.loop-i-test.true) in
    let put : Put w i t c.put_bit.result v ys =
    λ k l. c.put_bit.ensures k l ∙ ap (λ x. cond (eqb (t % 8) k) x (bit_of (get_or ys (i * w + t / 8) 0) k)) c.get_bit.ensures.value in
    key_step w c.args.shape.size i t c.put_bit.result v c.args.bytes.now ys (omega arith) fits put c.loop-i.invariant

pub returns : goal.returns
returns c =
    let s = c.args.shape in
    let end : c.loop-i.i ≡ s.size = omega arith in
    key-written s.size s.limit c.args.at c.bytes_for-w.result c.args.column.now c.args.bytes.now c.loop-i.bytes
    c.bytes_for-w.ensures c.requires.place (omega arith)
    (subst (λ i. Writing c.bytes_for-w.result s.size c.args.at c.args.column.now c.args.bytes.now c.loop-i.bytes i) end c.loop-i.invariant)

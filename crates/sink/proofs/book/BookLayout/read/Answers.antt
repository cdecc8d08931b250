use Rattle.std.proofs.Common.{◌≡◌, ◌+◌, ◌-◌, ◌*◌, length, take, drop, ◌∙◌, suc-mul, mul-le-mul_right, arith}
use lib.ListN.{length-drop}
use Rattle.std.proofs.lemmas.List.{length-take-le}
use Rattle.bits.specs.Bits.{bytes_for}
use Rattle.sink.proofs.Books.{book-column, cleaned}
use Rattle.sink.proofs.book.BookLayout.read.Goals as goal

pub returns : goal.returns
returns c =
    let n = c.args.shape.size in
    let k = c.args.at in
    let w = c.bytes_for-w.result in
    let part : (k + 1) * w - k * w ≡ w = omega (arith, suc-mul k w) in
    let row = take (bytes_for n) (drop (k * bytes_for n) c.args.bytes.now) in
    let long : length row ≡ bytes_for n =
    omega (
      arith,
      suc-mul k (bytes_for n),
      mul-le-mul_right (bytes_for n) c.requires.place,
      c.requires.room,
      length-drop (k * bytes_for n) c.args.bytes.now,
      length-take-le (bytes_for n) (drop (k * bytes_for n) c.args.bytes.now),
    ) in
    cleaned n row c.copy_from_slice.new.self c.clear_pads.new.out
    (rw (part, c.bytes_for-w.ensures) at c.copy_from_slice.ensures.after) long c.clear_pads.ensures
    ∙ book-column n k c.args.bytes.now

use Rattle.std.proofs.Common.{◌≡◌, ◌+◌, ◌-◌, ◌*◌, suc-mul, arith}
use Rattle.bits.specs.Bits.{bits_of, pack}
use Rattle.sink.proofs.Books.{book-written, cleaned}
use Rattle.sink.proofs.book.BookLayout.write.Goals as goal

pub returns : goal.returns
returns c =
    let n = c.args.shape.size in
    let k = c.args.at in
    let v = c.args.column.now in
    let w = c.bytes_for-w.result in
    let part : (k + 1) * w - k * w ≡ w = omega (arith, suc-mul k w) in
    let row : c.clear_pads.new.out ≡ pack n (bits_of v) =
    cleaned n v c.copy_from_slice.new.self c.clear_pads.new.out c.copy_from_slice.ensures.after c.requires.whole c.clear_pads.ensures in
    rw (part, row, c.bytes_for-w.ensures) (book-written n c.args.shape.limit k v c.args.bytes.now c.requires.place c.requires.room)

use Rattle.sink.proofs.Keys.{key-column}
use Rattle.sink.proofs.key.PackedLayout.read.Goals as goal

pub returns : goal.returns
returns c =
    let s = c.args.shape in
    key-column s.size s.limit c.args.at c.args.bytes.now c.args.out.now c.write_bits.new.out c.requires.whole c.write_bits.ensures

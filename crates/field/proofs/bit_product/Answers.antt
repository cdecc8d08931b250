use lib.Bits.{bit_and}
use Rattle.field.proofs.Cells.{bit-product, bit-lt}
use Rattle.field.proofs.bit_product.Goals as goal

pub returns : goal.returns
returns c = record { value = bit-product c.args.a c.args.b; element = bit-lt (bit_and c.args.a c.args.b) }

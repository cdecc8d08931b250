-- Every worked line, by computation.
use Rattle.std.specs.Prelude.{map, refl}
use Rattle.std.specs.List.{range_with_len}
use Rattle.bits.specs.Bits.{bit_of, bits_of, of_rows, byte_at, pack}
use Rattle.bits.specs.Columns.{columns_of, packed_rows}
use Rattle.galois.specs.Gf.{times_z, shifted, times as mul, chain, inverse}
use Rattle.matrix.specs.Matrix.{sum, delta, times, apply_row}
use Rattle.matrix.specs.Search.{least}
use Rattle.goppa.specs.Checks.{power, value, ratio, checks}
use Rattle.quotient.specs.Quotient.{remainder, times_y, product, power as raised_to, combined, value as value_at}
use Rattle.maker.specs.Maker.{low_of}
use Rattle.session.specs.Table.{wrong, nonzero, leading}
use Rattle.worked.specs.Worked.{Holds, Yielded, check_columns, inverse_is, public_columns, packed_key, blinded_columns, column_replies, taken, unblinded_rows, combination, maker_root, maker_takes, maker_dependent, maker_takes_one}

pub check_columns_hold : Holds check_columns
unfolding columns_of pack byte_at checks ratio value power sum inverse chain mul shifted times_z
check_columns_hold = refl

pub inverse_holds : Holds inverse_is
unfolding packed_rows byte_at of_rows bit_of times checks ratio value power sum inverse chain mul shifted times_z
inverse_holds = refl

pub public_columns_hold : Holds public_columns
unfolding pack byte_at of_rows bit_of times checks ratio value power sum inverse chain mul shifted times_z
public_columns_hold = refl

pub packed_key_holds : Holds packed_key
unfolding packed_rows pack byte_at bits_of of_rows bit_of times checks ratio value power sum inverse chain mul shifted times_z
packed_key_holds = refl

pub blinded_columns_hold : Holds blinded_columns
unfolding columns_of pack byte_at of_rows bit_of times checks ratio value power sum inverse chain mul shifted times_z
blinded_columns_hold = refl

pub column_replies_hold : Holds column_replies
unfolding columns_of pack byte_at of_rows bit_of times checks ratio value power sum inverse chain mul shifted times_z
column_replies_hold = refl

pub unblinded_rows_hold : Holds unblinded_rows
unfolding pack byte_at bits_of of_rows bit_of apply_row sum
unblinded_rows_hold = refl

pub combination_holds : Holds combination
unfolding leading nonzero least apply_row columns_of pack byte_at bits_of of_rows bit_of times checks ratio value power sum inverse chain mul shifted times_z
combination_holds = refl

pub maker_root_holds : Holds maker_root
unfolding value_at combined raised_to product remainder times_y low_of sum delta mul shifted times_z
maker_root_holds = refl

pub maker_takes_holds : Holds maker_takes
unfolding least
maker_takes_holds = refl

pub maker_dependent_holds : Holds maker_dependent
unfolding combined raised_to product remainder times_y low_of sum delta mul shifted times_z
maker_dependent_holds = refl

pub maker_takes_one_holds : Holds maker_takes_one
unfolding least
maker_takes_one_holds = refl

pub rows_taken : Yielded (map taken (range_with_len 0 8))
unfolding wrong least delta apply_row columns_of pack byte_at bits_of of_rows bit_of times checks ratio value power sum inverse chain mul shifted times_z
rows_taken = (refl, (refl, (refl, (refl, (refl, (refl, (refl, (refl, tt))))))))

use Rattle.worked.proofs.Lines.{check_columns_hold, inverse_holds, public_columns_hold, packed_key_holds, blinded_columns_hold, column_replies_hold, unblinded_rows_hold, combination_holds, maker_root_holds, maker_takes_holds, maker_dependent_holds, maker_takes_one_holds, rows_taken}
use Rattle.worked.proofs.examples_stand.Goals as goal

pub returns : goal.returns
returns c =
    (check_columns_hold, (inverse_holds, (public_columns_hold, (packed_key_holds, (blinded_columns_hold, (column_replies_hold, (unblinded_rows_hold, (combination_holds, (maker_root_holds, (maker_takes_holds, (maker_dependent_holds, (maker_takes_one_holds, rows_taken))))))))))))

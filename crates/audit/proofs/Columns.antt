-- A column of the public matrix. Assumes nothing.
use Rattle.std.proofs.Common.{◌≡◌, ℕ, ◌+◌, ◌*◌, ◌<◌, ◌≤◌, true, cond, List, length, is_ok, Ok, Result, ap, ◌∙◌}
use Rattle.galois.specs.Bit.{bits}
use Rattle.matrix.specs.Matrix.{Mat, Els, times, apply}
use Rattle.bits.specs.Bits.{bytes_for, bits_of, of_rows, pack}
use Rattle.operator.specs.declared.fault.OperatorFault.{OperatorFault}
use Rattle.operator.specs.Actions.{ColumnAction, Stored, stored_check, zeros}
use Rattle.session.proofs.Products.{column-times, stored-right}
use Rattle.audit.specs.Solving.{product}

pub column-made : (n m order c : ℕ) (H M : Mat) (inverse a b b' : List ℕ) (r : Result (Unit {0}) OperatorFault) → m ≡ n → (0 < n) × (n ≤ 1664) → length inverse ≡ n * bytes_for n → Els bits H
    → Stored m inverse order M → a ≡ pack n (λ i. H i (m + c)) → ColumnAction order M a b b' r → r ≡ Ok tt → b' ≡ pack n (λ i. product n inverse H i c)
unfolding times
column-made n m order c H M inverse a b b' r em some long els made is act ok =
    let good : is_ok (stored_check m (length inverse)) ≡ true = ap (λ z. is_ok (stored_check z (length inverse))) em ∙ stored-right n (length inverse) some.0 some.1 long in
    let size : order ≡ n = made.size ∙ ap (λ t. cond t m 1) good ∙ em in
    let rows : M ≡ of_rows (bytes_for n) inverse = made.entries ∙ ap (λ t. cond t (of_rows (bytes_for m) inverse) zeros) good ∙ ap (λ z. of_rows (bytes_for z) inverse) em in
    let column : a ≡ pack n (λ i. H i (n + c)) = is ∙ ap (λ z. pack n (λ i. H i (z + c))) em in
    act.written
    ∙ ap (λ (x : Result (Unit {0}) OperatorFault). cond (is_ok x) (pack order (apply bits order M (bits_of a))) b) ok
    ∙ (λ t. pack (size t) (apply bits (size t) (rows t) (bits_of (column t))))
    ∙ column-times n (of_rows (bytes_for n) inverse) H (n + c) els

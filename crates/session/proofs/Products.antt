-- B by its packed columns, and by the actions of blinding and check block. Assumes nothing.
use Rattle.std.proofs.Common.{◌≡◌, ℕ, ◌+◌, ◌*◌, ◌<◌, ◌≤◌, true, cond, not, eqb, ltb, leb, List, [], length, slice_index_or, is_ok, Ok, Result, sym, refl, ap, ◌∙◌}
use Rattle.std.proofs.lemmas.Bool.{eq-eqb, lt-ltb, le-leb}
use Rattle.galois.specs.Bit.{bits, both}
use Rattle.matrix.specs.Matrix.{Mat, Els, delta, times, apply, apply_row}
use Rattle.matrix.specs.Search.{least}
use Rattle.matrix.proofs.Sums.{sum-cong}
use Rattle.matrix.proofs.Searches.{least-cong}
use Rattle.bits.specs.Bits.{bytes_for, bits_of, of_rows, pack}
use Rattle.bits.specs.Columns.{columns_of, entry_of}
use Rattle.bits.proofs.Packs.{bits-pack-in, pack-cong, apply-cong, apply_row-lt, apply-lt, pack-times_row}
use Rattle.bits.proofs.Columns.{get_or-columns}
use Rattle.operator.specs.declared.fault.OperatorFault.{OperatorFault}
use Rattle.operator.specs.Actions.{ColumnAction, RowAction, Stored, stored_check, zeros}
use Rattle.session.specs.Answers.{public_column, unblinded}
use Rattle.key.specs.Columns.{ColumnGiven}
use Rattle.key.specs.declared.fault.ColumnFault.{ColumnFault}
use Rattle.key.specs.declared.sizes.Sizes.{Sizes}
use Rattle.session.specs.Table.{blinded, wrong, nonzero, leading}

-- entries of a product are bits
pub product_lt : (n : ℕ) (A B : Mat) (i j : ℕ) → times bits n A B i j < 2
unfolding times apply
product_lt n A B i j = apply-lt bits n A (λ k. B k j) i

pub entry-columns : (n k : ℕ) (M : Mat) (i j : ℕ) → i < n → j < k → M i j < 2 → entry_of (columns_of n k M) i j ≡ M i j
entry-columns n k M i j hi hj lt = ap (λ c. bits_of c i) (get_or-columns n k M j hj) ∙ bits-pack-in n (λ a. M a j) i hi lt

pub row-entries : (n : ℕ) (M : Mat) (v : ℕ → ℕ) (j : ℕ) → j < n → ((i k : ℕ) → M i k < 2) → apply_row bits n (entry_of (columns_of n n M)) v j ≡ apply_row bits n M v j
unfolding apply_row
row-entries n M v j hj lt = sum-cong n _ _ (λ k hk. ap (both (v k)) (entry-columns n n M k j hk hj (lt k j)))

-- tests of the packed row s B are those of the table
module _ (n : ℕ) (R H : Mat) (s b : List ℕ) (is : b ≡ pack n (apply_row bits n (times bits n R H) (bits_of s))) where
  bit_is : (j : ℕ) → j < n → bits_of b j ≡ apply_row bits n (entry_of (blinded n R H)) (bits_of s) j
  bit_is j h =
      ap (λ xs. bits_of xs j) is
      ∙ bits-pack-in n (apply_row bits n (times bits n R H) (bits_of s)) j h (apply_row-lt bits n (times bits n R H) (bits_of s) j)
      ∙ sym (row-entries n (times bits n R H) (bits_of s) j h (product_lt n R H))

  -- the first wrong column
  pub wrong-is : (i : ℕ) → least n (λ j. not (eqb (bits_of b j) (delta i j))) ≡ wrong n (blinded n R H) s i
  unfolding wrong
  wrong-is i = least-cong n _ _ (λ j h. ap (λ x. not (eqb x (delta i j))) (bit_is j h))

  pub nonzero-is : least n (λ j. not (eqb (bits_of b j) 0)) ≡ nonzero n (blinded n R H) s
  unfolding nonzero
  nonzero-is = least-cong n _ _ (λ j h. ap (λ x. not (eqb x 0)) (bit_is j h))

-- the first bit of v that is not 0
pub leading-is : (n : ℕ) (v : List ℕ) → least n (λ j. not (eqb (bits_of v j) 0)) ≡ leading n v
unfolding leading
leading-is n v = refl

-- a matrix times a packed column of another
pub column-times : (n : ℕ) (A H : Mat) (j : ℕ) → Els bits H → pack n (apply bits n A (bits_of (pack n (λ i. H i j)))) ≡ pack n (λ i. times bits n A H i j)
unfolding times apply
column-times n A H j els = pack-cong n _ _ (λ i h. apply-cong bits n A _ _ i (λ k l. bits-pack-in n (λ a. H a j) k l (els k j)))

-- (v R) H is v (R H)
pub rows-chained : (n m k : ℕ) (R H : Mat) (v a b b' : List ℕ) (s : Result (Unit {0}) OperatorFault) → n ≡ m → n ≡ k → a ≡ unblinded m R v → RowAction k H a b b' s → s ≡ Ok tt
    → b' ≡ pack n (apply_row bits n (times bits n R H) (bits_of v))
rows-chained n m k R H v a b b' s em ek one two p =
    two.written
    ∙ ap (λ (x : Result (Unit {0}) OperatorFault). cond (is_ok x) (pack k (apply_row bits k H (bits_of a))) b) p
    ∙ ap (λ z. pack z (apply_row bits z H (bits_of a))) (sym ek)
    ∙ ap (λ xs. pack n (apply_row bits n H (bits_of xs))) (one ∙ ap (λ z. unblinded z R v) (sym em))
    ∙ pack-times_row n R H (bits_of v)

-- R (H e) is (R H) e
pub columns-chained : (n m : ℕ) (z : Sizes) (R H : Mat) (j : ℕ) (a a' b b' : List ℕ) (r : Result (Unit {0}) ColumnFault) (s : Result (Unit {0}) OperatorFault) → Els bits H → n ≡ m → n ≡ z.rows
    → ColumnGiven z H j a a' r → ColumnAction m R a' b b' s → r ≡ Ok tt → s ≡ Ok tt → b' ≡ pack n (λ i. times bits n R H i j)
columns-chained n m z R H j a a' b b' r s els em ek one two p q =
    let first : a' ≡ pack n (λ i. H i j) =
    one.written
    ∙ ap (λ (x : Result (Unit {0}) ColumnFault). cond (is_ok x) (pack z.rows (λ i. H i j)) a) p
    ∙ ap (λ k. pack k (λ i. H i j)) (sym ek) in
    two.written
    ∙ ap (λ (x : Result (Unit {0}) OperatorFault). cond (is_ok x) (pack m (apply bits m R (bits_of a'))) b) q
    ∙ ap (λ k. pack k (apply bits k R (bits_of a'))) (sym em)
    ∙ ap (λ xs. pack n (apply bits n R (bits_of xs))) first
    ∙ column-times n R H j els

-- among the columns of the check block it is a column of B
pub block-column : (n : ℕ) (R H : Mat) (j : ℕ) (b : List ℕ) → b ≡ pack n (λ i. times bits n R H i j) → j < n → b ≡ slice_index_or (blinded n R H) j []
block-column n R H j b is h = is ∙ sym (get_or-columns n n (times bits n R H) j h)

-- an inverse memory of the right length is a stored matrix
pub stored-right : (n l : ℕ) → 0 < n → n ≤ 1664 → l ≡ n * bytes_for n → is_ok (stored_check n l) ≡ true
stored-right n l a b c =
    let p : ltb 0 n ≡ true = lt-ltb 0 n a in
    let q : leb n 1664 ≡ true = le-leb n 1664 b in
    let r : eqb l (n * bytes_for n) ≡ true = eq-eqb l (n * bytes_for n) c in
    rw (p, q, r) refl

-- that matrix times column k + c of the check matrix is public column c
pub public-is : (n k order : ℕ) (H M : Mat) (inverse b : List ℕ) (c : ℕ) → (0 < n) × (n ≤ 1664) → length inverse ≡ n * bytes_for n → k ≡ n → Stored k inverse order M
    → b ≡ pack n (λ i. times bits n M H i (k + c)) → b ≡ public_column n H inverse c
public-is n k order H M inverse b c some long same made is =
    let good : is_ok (stored_check k (length inverse)) ≡ true = ap (λ x. is_ok (stored_check x (length inverse))) same ∙ stored-right n (length inverse) some.0 some.1 long in
    let rows : M ≡ of_rows (bytes_for n) inverse = made.entries ∙ ap (λ b. cond b (of_rows (bytes_for k) inverse) zeros) good ∙ ap (λ x. of_rows (bytes_for x) inverse) same in
    is ∙ (λ t. pack n (λ i. times bits n (rows t) H i (same t + c)))

-- Two actions one after the other are the action of the product; transposed matrices; the 1 by 1 zero matrix. Assumes nothing.
use Rattle.std.proofs.Common.{◌≡◌, ℕ, cond, eqb, List, [], ◌∷◌, length, set, is_ok, Ok, Result, sym, refl, ap, ◌∙◌, subst, inl, inr, arith}
use Rattle.std.proofs.lemmas.Bool.{cases_eq, cond-true, cond-false, eq-eqb, ne_eqb}
use Rattle.std.proofs.lemmas.Bool.Decides.{nat_tests}
use Rattle.galois.specs.Bit.{bits}
use Rattle.matrix.specs.Matrix.{Mat, times, apply, apply_row}
use Rattle.matrix.proofs.Sums.{sum-zero, sum-cong, zero-mul}
use Rattle.bits.specs.Bits.{bytes_for, bits_of, byte_at, pack}
use Rattle.bits.proofs.Packs.{funext, length-pack, pack-cong, pack-times}
use Rattle.operator.specs.declared.fault.OperatorFault.{OperatorFault}
use Rattle.operator.specs.Actions.{ColumnAction, RowAction, answer, pair_matrix, pair_order, transposed, zeros}

-- the lengths that an action accepts
pub answer-lengths : (n v w : ℕ) → answer n v w ≡ Ok tt → (v ≡ bytes_for n) × (w ≡ bytes_for n)
answer-lengths n v w h = (grind (arith, nat_tests), grind (arith, nat_tests))

-- b v, then a (b v)
module _ {m n : ℕ} {a b : Mat} {v mid mid' out out' : List ℕ} {r s : Result (Unit {0}) OperatorFault} (same : m ≡ n) where
  pub chain-columns : ColumnAction n b v mid mid' r → r ≡ Ok tt → ColumnAction m a mid' out out' s → ColumnAction m (times bits m a b) v out out' s
  chain-columns one' ok two =
      let one : ColumnAction m b v mid mid' r = subst (λ k. ColumnAction k b v mid mid' r) (sym same) one' in
      let lv : length v ≡ bytes_for m = (answer-lengths m (length v) (length mid) (sym one.result ∙ ok)).0 in
      let eq : mid' ≡ pack m (apply bits m b (bits_of v)) = one.written ∙ ap (λ (x : Result (Unit {0}) OperatorFault). cond (is_ok x) (pack m (apply bits m b (bits_of v))) mid) ok in
      let lm : length mid' ≡ bytes_for m = ap length eq ∙ length-pack m (apply bits m b (bits_of v)) in
      record {
        result = two.result ∙ ap (λ l. answer m l (length out)) (lm ∙ sym lv);
        written = two.written ∙ ap (λ p. cond (is_ok s) p out) (ap (λ xs. pack m (apply bits m a (bits_of xs))) eq ∙ pack-times m a b (bits_of v));
      }

pub one_byte : (xs : List ℕ) (x : ℕ) → length xs ≡ 1 → set xs 0 x ≡ x ∷ []
one_byte [] x h = absurd (omega arith)
one_byte (y ∷ []) x h = refl
one_byte (y ∷ z ∷ ys) x h = absurd (omega arith)

-- the byte 0 is the result of the column action of the 1 by 1 zero matrix
pub zero-columns : (f : ℕ → ℕ) → 0 ∷ [] ≡ pack 1 (apply bits 1 zeros f)
unfolding pack byte_at apply
zero-columns f = sym (pack-cong 1 (apply bits 1 zeros f) (λ _. 0) (λ k l. sum-zero 1 _ (λ i m. zero-mul bits (f i))))

-- the column action of the transposed matrix is the row action
apply-transposed : (n : ℕ) (m : Mat) (v : ℕ → ℕ) → apply bits n (transposed m) v ≡ apply_row bits n m v
unfolding apply apply_row
apply-transposed n m v = funext (λ i. sum-cong n _ _ (λ k l. bits.mul_comm (m k i) (v k)))

module _ {n : ℕ} {m : Mat} {v out out' : List ℕ} {r : Result (Unit {0}) OperatorFault} where
  pub rows-as-columns : RowAction n m v out out' r → ColumnAction n (transposed m) v out out' r
  rows-as-columns h = record { result = h.result; written = h.written ∙ ap (λ f. cond (is_ok r) (pack n f) out) (sym (apply-transposed n m (bits_of v))) }

  pub columns-as-rows : ColumnAction n (transposed m) v out out' r → RowAction n m v out out' r
  columns-as-rows h = record { result = h.result; written = h.written ∙ ap (λ f. cond (is_ok r) (pack n f) out) (apply-transposed n m (bits_of v)) }

-- the transposed product is the product of the transposed, the other way round
times-transposed : (n : ℕ) (a b : Mat) → times bits n (transposed b) (transposed a) ≡ transposed (times bits n a b)
unfolding times
times-transposed n a b = funext (λ i. funext (λ j. sum-cong n _ _ (λ k l. bits.mul_comm (b k i) (a j k))))

pair-transposed : (m n : ℕ) (a b : Mat) → pair_matrix n (transposed b) m (transposed a) ≡ transposed (pair_matrix m a n b)
pair-transposed m n a b = elim (cases_eq m n) [
  | inl e ↦
      cond-true (eqb n m) _ _ (eq-eqb n m (sym e))
      ∙ ap (λ k. times bits k (transposed b) (transposed a)) (sym e)
      ∙ times-transposed m a b
      ∙ ap transposed (sym (cond-true (eqb m n) (times bits m a b) zeros (eq-eqb m n e)))
  | inr ne ↦
      cond-false (eqb n m) _ _ (ne_eqb n m (λ e. ne (sym e)))
      ∙ ap transposed (sym (cond-false (eqb m n) (times bits m a b) zeros (ne_eqb m n ne)))
]

pair-order : (m n : ℕ) → pair_order n m ≡ pair_order m n
pair-order m n = elim (cases_eq m n) [
  | inl e ↦ cond-true (eqb n m) n 1 (eq-eqb n m (sym e)) ∙ sym e ∙ sym (cond-true (eqb m n) m 1 (eq-eqb m n e))
  | inr ne ↦ cond-false (eqb n m) n 1 (ne_eqb n m (λ e. ne (sym e))) ∙ sym (cond-false (eqb m n) m 1 (ne_eqb m n ne))
]

-- the row action of a pair
pub pair-rows : (m n : ℕ) (a b : Mat) (v out out' : List ℕ) (r : Result (Unit {0}) OperatorFault)
    → ColumnAction (pair_order n m) (pair_matrix n (transposed b) m (transposed a)) v out out' r
    → RowAction (pair_order m n) (pair_matrix m a n b) v out out' r
pair-rows m n a b v out out' r h =
    columns-as-rows
    (subst (λ k. ColumnAction k (transposed (pair_matrix m a n b)) v out out' r) (pair-order m n)
    (subst (λ c. ColumnAction (pair_order n m) c v out out' r) (pair-transposed m n a b) h))

-- The rows of a table packed, and the inverse of the block. Assumes nothing.
use Rattle.std.proofs.Common.{◌≡◌, ℕ, ◌+◌, ◌*◌, ◌/◌, ◌%◌, ◌<◌, cond, eqb, ltb, List, map, length, get_or, sym, ap, ◌∙◌, subst, ap₂, inl, inr, arith, mul_comm}
use Rattle.std.proofs.lemmas.Bool.{cases_lt, cond-true, lt-ltb, eq-eqb}
use Rattle.std.proofs.lemmas.List.{get_or-map, get_or_past, length-map}
use Rattle.std.proofs.lemmas.Nat.{mul-add-lt, div-mul-add, mod-mul-add}
use Rattle.std.proofs.Math.Nat.{mul_left_comm}
use Rattle.galois.specs.Bit.{bits}
use Rattle.matrix.specs.Matrix.{Mat, Same}
use Rattle.matrix.proofs.Sums.{times-left}
use Rattle.bits.specs.Bits.{bytes_for, bit_of, bits_of, of_rows, pack}
use Rattle.bits.proofs.Packs.{bits-pack-in}
use Rattle.sink.proofs.Rows.{of_rows-lt}
use Rattle.solver.specs.Answers.{Solves}
use Rattle.solver.specs.Cells.{entries, element}
use Rattle.solver.specs.declared.Solved.{Solved}
use Rattle.solver.specs.declared.Solved.TheVariants.{Inverse, Dependent}
use Rattle.host.specs.Frames.{bit_table}
use Rattle.host.proofs.Tables.{table-bit}
use Rattle.host.proofs.Solving.{solves-same}
use Rattle.audit.specs.Solving.{Inverted, padded_bit}

cell-bit : (ys : List ℕ) (p : ℕ) → get_or ys p 0 % 2 ≡ get_or (map (element 1 (λ x. x)) ys) p 0
cell-bit ys p = elim (cases_lt p (length ys)) [
  | inl l ↦ sym (get_or-map (element 1 (λ x. x)) ys p 0 0 l)
  | inr l ↦
      ap (λ x. x % 2) (get_or_past ys p 0 l)
      ∙ sym (get_or_past (map (element 1 (λ x. x)) ys) p 0 (let e = length-map ys (element 1 (λ x. x)) in omega arith))
]

-- bit p, where it is not a pad bit
pub bit-read : (n p w : ℕ) (ys : List ℕ) → w ≡ bytes_for n → p % (8 * w) < n → get_or ys (p / (8 * w) * n + p % (8 * w)) 0 % 2 ≡ padded_bit n ys p
unfolding entries
bit-read n p w ys e h =
    cell-bit ys (p / (8 * w) * n + p % (8 * w))
    ∙ sym (cond-true (ltb (p % (8 * w)) n) _ _ (lt-ltb (p % (8 * w)) n h))
    ∙ ap (λ w. cond (ltb (p % (8 * w)) n) (bit_table n ys (p / (8 * w)) (p % (8 * w))) 0) e

-- place of bit j of row i
eight-times : (i w : ℕ) → i * (8 * w) ≡ 8 * (i * w)
eight-times i w = mul_left_comm i 8 w

-- a place in packed rows
row-place : (w : ℕ) (xs : List ℕ) (i j : ℕ) → of_rows w xs i j ≡ bits_of xs (i * (8 * w) + j)
unfolding of_rows bits_of
row-place w xs i j =
    let e = eight-times i w in
    ap₂ (λ p b. bit_of (get_or xs p 0) b) (omega arith) (omega arith)

padded-bit : (n i j : ℕ) (ys : List ℕ) → j < n → padded_bit n ys (i * (8 * bytes_for n) + j) ≡ bit_table n ys i j
padded-bit n i j ys hj =
    let w = 8 * bytes_for n in
    ap₂ (λ a b. cond (ltb b n) (bit_table n ys a b) 0) (div-mul-add i w j (omega arith)) (mod-mul-add i w j (omega arith))
    ∙ cond-true (ltb j n) _ _ (lt-ltb j n hj)

pub rows-packed : (n w : ℕ) (ys xs xs' : List ℕ) → w ≡ bytes_for n → length xs ≡ n * bytes_for n
    → xs' ≡ cond (eqb (length xs) (bytes_for (8 * (n * w)))) (pack (8 * (n * w)) (padded_bit n ys)) xs
    → (i j : ℕ) → i < n → j < n → of_rows (bytes_for n) xs' i j ≡ bit_table n ys i j
rows-packed n w ys xs xs' e long is i j hi hj =
    subst (λ w. xs' ≡ cond (eqb (length xs) (bytes_for (8 * (n * w)))) (pack (8 * (n * w)) (padded_bit n ys)) xs → of_rows (bytes_for n) xs' i j ≡ bit_table n ys i j) (sym e) (packed n ys xs xs' long i j hi hj) is
  where
    packed : (n : ℕ) (ys xs xs' : List ℕ) → length xs ≡ n * bytes_for n → (i j : ℕ) → i < n → j < n
        → xs' ≡ cond (eqb (length xs) (bytes_for (8 * (n * bytes_for n)))) (pack (8 * (n * bytes_for n)) (padded_bit n ys)) xs → of_rows (bytes_for n) xs' i j ≡ bit_table n ys i j
    packed n ys xs xs' long i j hi hj is =
        let w = bytes_for n in
        let m = 8 * (n * w) in
        let fit : length xs ≡ bytes_for m = omega arith in
        let e = eight-times i w in
        let place = mul-add-lt i w (j / 8) n hi (omega arith) in
        let turned = mul_comm n w in
        let inside : i * (8 * w) + j < m = omega arith in
        let same = padded-bit n i j ys hj in
        ap (λ z. of_rows w z i j) (is ∙ cond-true (eqb (length xs) (bytes_for m)) _ _ (eq-eqb (length xs) (bytes_for m) fit))
        ∙ row-place w (pack m (padded_bit n ys)) i j
        ∙ bits-pack-in m (padded_bit n ys) (i * (8 * w) + j) inside (subst (λ x. x < 2) (sym same) (table-bit n ys i j))
        ∙ same

pub inverted : (n : ℕ) (H : Mat) (ys xs : List ℕ) (s : Solved) → Solves bits n H (bit_table n ys) s
    → ((i j : ℕ) → i < n → j < n → of_rows (bytes_for n) xs i j ≡ bit_table n ys i j) → Inverted n H xs s
inverted n H ys xs Inverse h e = record {
  elements = of_rows-lt (bytes_for n) xs;
  undoes = λ i j hi hj. times-left bits n (of_rows (bytes_for n) xs) (bit_table n ys) H i j (λ k hk. e i k hi hk) ∙ h.left i j hi hj;
}
inverted n H ys xs (Dependent r) h e = h.singular

-- the same for a block in a table
pub block-inverted : (m n : ℕ) (H : Mat) (first ys xs : List ℕ) (s : Solved) → m ≡ n → Same m (bit_table m first) H → Solves bits m (bit_table m first) (bit_table m ys) s
    → ((i j : ℕ) → i < m → j < m → of_rows (bytes_for m) xs i j ≡ bit_table m ys i j) → Inverted n H xs s
block-inverted m n H first ys xs s em block solved packed =
    subst (λ z. Inverted z H xs s) em (inverted m H ys xs s (solves-same bits m (bit_table m first) H block (bit_table m ys) s solved) packed)

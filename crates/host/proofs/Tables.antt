-- Rows and columns of a table of bits. Assumes nothing.
use Rattle.std.proofs.Common.{◌≡◌, ℕ, zero, suc, ◌+◌, ◌*◌, ◌%◌, ◌<◌, ◌≤◌, List, length, get_or, take, drop, sym, refl, ap, ◌∙◌, inl, inr, arith, length-set}
use Rattle.std.proofs.lemmas.Bool.{cases_eq}
use Rattle.std.proofs.lemmas.List.{get_or-map, get_or-take, get_or-drop}
use Rattle.std.proofs.lemmas.Nat.{mul-add-lt}
use Rattle.galois.specs.Bit.{bits}
use Rattle.matrix.specs.Matrix.{Mat, Els}
use Rattle.bits.specs.Bits.{bits_of, pack}
use Rattle.bits.proofs.Packs.{bits-pack-in, bits-lt, pack-cong}
use Rattle.solver.specs.Cells.{entries, element}
use Rattle.solver.proofs.Grid.{entries-set, entries-other, entries-elements}
use Rattle.host.specs.Frames.{bit_table, with_cells}

pub table-bit : (n : ℕ) (ys : List ℕ) (i j : ℕ) → bit_table n ys i j < 2
table-bit n ys i j = entries-elements 1 (λ x. x) bits n ys refl i j

-- the cells of row i, packed
pub row-packed : (n i m : ℕ) (ys : List ℕ) → length ys ≡ n * n → i < n → m ≡ n → pack n (λ k. get_or (take m (drop (i * n) ys)) k 0 % 2) ≡ pack n (bit_table n ys i)
unfolding entries
row-packed n i m ys l hi e =
    pack-cong n _ _ (λ k hk.
    ap (λ x. x % 2) (get_or-take m (drop (i * n) ys) k 0 (omega arith) ∙ get_or-drop (i * n) ys k 0)
    ∙ sym (get_or-map (element 1 (λ x. x)) ys (i * n + k) 0 0 (omega (arith, mul-add-lt i n k n hi hk))))

module _ (n j : ℕ) (v : ℕ → ℕ) (xs : List ℕ) (size : length xs ≡ n * n) (hj : j < n) where
  pub length-column : (k : ℕ) → length (with_cells n j k v xs) ≡ n * n
  unfolding with_cells
  length-column zero = size
  length-column (suc k) = length-set _ _ _ ∙ length-column k

  -- other cells are kept
  column-other : (k : ℕ) → k ≤ n → (a b : ℕ) → b < n → (b ≡ j → k ≤ a) → bit_table n (with_cells n j k v xs) a b ≡ bit_table n xs a b
  unfolding with_cells
  column-other zero hk a b hb h = refl
  column-other (suc k) hk a b hb h =
      entries-other 1 (λ x. x) n (with_cells n j k v xs) k j (omega arith) hj (v k) a b hb (λ e f. let q = h f in omega arith)
      ∙ column-other k (omega arith) a b hb (λ e. let q = h e in omega arith)

  column-there : (k : ℕ) → k ≤ n → (a : ℕ) → a < k → bit_table n (with_cells n j k v xs) a j ≡ v a % 2
  unfolding with_cells
  column-there zero hk a ha = absurd (omega arith)
  column-there (suc k) hk a ha = elim (cases_eq a k) [
    | inl e ↦
        ap (λ i. bit_table n (with_cells n j (suc k) v xs) i j) e
        ∙ entries-set 1 (λ x. x) n (with_cells n j k v xs) k j (omega arith) hj (v k) (length-column k)
        ∙ ap (λ i. v i % 2) (sym e)
    | inr ne ↦
        entries-other 1 (λ x. x) n (with_cells n j k v xs) k j (omega arith) hj (v k) a j hj (λ e _. ne e)
        ∙ column-there k (omega arith) a (omega arith)
  ]

-- one more column of B
pub column-heard : (n j : ℕ) (B : Mat) (xs : List ℕ) → Els bits B → length xs ≡ n * n → j < n
    → ((i k : ℕ) → i < n → k < j → bit_table n xs i k ≡ B i k)
    → (i k : ℕ) → i < n → k < j + 1 → bit_table n (with_cells n j n (bits_of (pack n (λ a. B a j))) xs) i k ≡ B i k
column-heard n j B xs els size hj h i k hi hk =
    let v = bits_of (pack n (λ a. B a j)) in
    elim (cases_eq k j) [
      | inl e ↦
          let here : v i ≡ B i j = bits-pack-in n (λ a. B a j) i hi (els i j) in
          let low : v i % 2 ≡ v i = let small : v i < 2 = bits-lt (pack n (λ a. B a j)) i in omega arith in
          ap (bit_table n (with_cells n j n v xs) i) e
          ∙ column-there n j v xs size hj n (omega arith) i hi
          ∙ low ∙ here ∙ ap (B i) (sym e)
      | inr ne ↦
          column-other n j v xs size hj n (omega arith) i k (omega arith) (λ e. absurd (ne e))
          ∙ h i k hi (omega arith)
    ]

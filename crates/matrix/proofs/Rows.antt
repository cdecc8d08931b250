-- Row operations, and what they keep. Assumes nothing.
use Rattle.std.proofs.Common.{◌≡◌, ℕ, ◌^◌, ◌<◌, eqb, ◌≢◌, sym, refl, ap, ◌∙◌, ap₂, inl, inr, arith}
use lib.Bits.{bit_xor, xor_assoc, xor_self, xor_zero_r, xor_lt}
use Rattle.std.proofs.lemmas.Bool.{cases_eq, cond-true, cond-false, eq-eqb, ne_eqb}
use Rattle.galois.specs.Arith.{Arith}
use Rattle.matrix.specs.Matrix.{Mat, delta, times, Same, Els, add_row, scale_row, swap_rows}
use Rattle.matrix.specs.Steps.{Tied}
use Rattle.matrix.proofs.Sums.{sum-cong, sum-xor, xor-mul, sum-mul, times-assoc, delta-on, delta-off, times-left, delta-times}

module _ (F : Arith) (i r s : ℕ) (M : Mat) (a j : ℕ) where
  pub add-row-on : a ≡ i → add_row F i r s M a j ≡ bit_xor (M a j) (F.mul s (M r j))
  unfolding add_row
  add-row-on e = cond-true (eqb a i) _ _ (eq-eqb a i e)

  pub add-row-off : (a ≡ i → ⊥) → add_row F i r s M a j ≡ M a j
  unfolding add_row
  add-row-off ne = cond-false (eqb a i) _ _ (ne_eqb a i ne)

module _ (F : Arith) (i s : ℕ) (M : Mat) (a j : ℕ) where
  pub scale-row-on : a ≡ i → scale_row F i s M a j ≡ F.mul s (M a j)
  unfolding scale_row
  scale-row-on e = cond-true (eqb a i) _ _ (eq-eqb a i e)

  pub scale-row-off : (a ≡ i → ⊥) → scale_row F i s M a j ≡ M a j
  unfolding scale_row
  scale-row-off ne = cond-false (eqb a i) _ _ (ne_eqb a i ne)

module _ (i r : ℕ) (M : Mat) (a j : ℕ) where
  pub swap-rows-first : a ≡ i → swap_rows i r M a j ≡ M r j
  unfolding swap_rows
  swap-rows-first e = ap (λ b. M b j) (cond-true (eqb a i) _ _ (eq-eqb a i e))

  pub swap-rows-second : a ≡ r → swap_rows i r M a j ≡ M i j
  unfolding swap_rows
  swap-rows-second e =
      elim (cases_eq a i) [
        | inl e' ↦ ap (λ b. M b j) (cond-true (eqb a i) _ _ (eq-eqb a i e') ∙ sym e ∙ e')
        | inr ne ↦ ap (λ b. M b j) (cond-false (eqb a i) _ _ (ne_eqb a i ne) ∙ cond-true (eqb a r) _ _ (eq-eqb a r e))
      ]

  pub swap-rows-off : (a ≡ i → ⊥) → (a ≡ r → ⊥) → swap_rows i r M a j ≡ M a j
  unfolding swap_rows
  swap-rows-off ne ne' = ap (λ b. M b j) (cond-false (eqb a i) _ _ (ne_eqb a i ne) ∙ cond-false (eqb a r) _ _ (ne_eqb a r ne'))

-- an operation on the rows of n by n matrices that a matrix undoes
pub record RowOp (F : Arith) (n : ℕ) (op : Mat → Mat) : Type 0 where
  pub through : (A B : Mat) (a j : ℕ) → op (times F n A B) a j ≡ times F n (op A) B a j
  pub cong : (A B : Mat) → Same n A B → Same n (op A) (op B)
  pub undo : Mat
  pub undo-els : Els F undo
  pub undone : Same n (op undo) delta

module _ (F : Arith) (n : ℕ) where
  pub keeps : (op : Mat → Mat) (M X Y : Mat) → RowOp F n op → Tied F n M X Y → Tied F n M (op X) (op Y)
  keeps op M X Y o t = record {
    made = λ i j hi hj. sym (o.through Y M i j) ∙ o.cong (times F n Y M) X t.made i j hi hj;
    back = times F n t.back o.undo;
    backed = λ i j hi hj.
        sym (times-assoc F n (op Y) t.back o.undo i j)
        ∙ times-left F n _ _ o.undo i j (λ k hk. sym (o.through Y t.back i k) ∙ o.cong (times F n Y t.back) delta t.backed i k hi hk)
        ∙ sym (o.through delta o.undo i j)
        ∙ o.cong (times F n delta o.undo) o.undo (λ a b ha hb. delta-times F n o.undo a b ha (o.undo-els a b)) i j hi hj
        ∙ o.undone i j hi hj;
  }

  pub tied-same : (M X X' Y Y' : Mat) → Same n X X' → Same n Y Y' → Tied F n M X Y → Tied F n M X' Y'
  tied-same M X X' Y Y' hx hy t = record {
    made = λ i j hi hj. times-left F n Y' Y M i j (λ k hk. sym (hy i k hi hk)) ∙ t.made i j hi hj ∙ hx i j hi hj;
    back = t.back;
    backed = λ i j hi hj. times-left F n Y' Y t.back i j (λ k hk. sym (hy i k hi hk)) ∙ t.backed i j hi hj;
  }

  pub delta-lt : Els F delta
  delta-lt i j =
      elim (cases_eq i j) [
        | inl e ↦ rw (delta-on i j e) F.one-lt
        | inr ne ↦ let p = F.one-lt in rw (delta-off i j ne) (omega arith)
      ]

  pub add-row-els : (i r s : ℕ) (M : Mat) → Els F M → Els F (add_row F i r s M)
  add-row-els i r s M h a j =
      elim (cases_eq a i) [
        | inl e ↦ rw (add-row-on F i r s M a j e) (xor_lt F.width (M a j) (F.mul s (M r j)) (h a j) (F.mul-lt s (M r j)))
        | inr ne ↦ rw (add-row-off F i r s M a j ne) (h a j)
      ]

  pub scale-row-els : (i s : ℕ) (M : Mat) → Els F M → Els F (scale_row F i s M)
  scale-row-els i s M h a j =
      elim (cases_eq a i) [
        | inl e ↦ rw (scale-row-on F i s M a j e) (F.mul-lt s (M a j))
        | inr ne ↦ rw (scale-row-off F i s M a j ne) (h a j)
      ]

  pub swap-rows-els : (i r : ℕ) (M : Mat) → Els F M → Els F (swap_rows i r M)
  unfolding swap_rows
  swap-rows-els i r M h a j = h _ j

  pub add-row-through : (i r s : ℕ) (A B : Mat) (a j : ℕ) → add_row F i r s (times F n A B) a j ≡ times F n (add_row F i r s A) B a j
  unfolding times
  add-row-through i r s A B a j =
      elim (cases_eq a i) [
        | inl e ↦
            add-row-on F i r s (times F n A B) a j e
            ∙ ap (bit_xor (times F n A B a j)) (sum-mul F n s (λ k. F.mul (A r k) (B k j)) ∙ sum-cong n _ _ (λ k l. sym (F.mul_assoc s (A r k) (B k j))))
            ∙ sym (sum-xor n (λ k. F.mul (A a k) (B k j)) (λ k. F.mul (F.mul s (A r k)) (B k j)))
            ∙ sum-cong n _ _ (λ k l. sym (xor-mul F (A a k) (F.mul s (A r k)) (B k j)) ∙ ap (λ x. F.mul x (B k j)) (sym (add-row-on F i r s A a k e)))
        | inr ne ↦
            add-row-off F i r s (times F n A B) a j ne
            ∙ sum-cong n _ _ (λ k l. ap (λ x. F.mul x (B k j)) (sym (add-row-off F i r s A a k ne)))
      ]

  pub add-row-op : (i r s : ℕ) → (r ≡ i → ⊥) → r < n → RowOp F n (add_row F i r s)
  add-row-op i r s ne hr = record {
    through = add-row-through i r s;
    cong = λ A B h a j ha hj. elim (cases_eq a i) [
      | inl e ↦ add-row-on F i r s A a j e ∙ ap₂ bit_xor (h a j ha hj) (ap (F.mul s) (h r j hr hj)) ∙ sym (add-row-on F i r s B a j e)
      | inr d ↦ add-row-off F i r s A a j d ∙ h a j ha hj ∙ sym (add-row-off F i r s B a j d)
    ];
    undo = add_row F i r s delta;
    undo-els = add-row-els i r s delta delta-lt;
    undone = λ a j ha hj. elim (cases_eq a i) [
      | inl e ↦
          add-row-on F i r s (add_row F i r s delta) a j e
          ∙ ap₂ bit_xor (add-row-on F i r s delta a j e) (ap (F.mul s) (add-row-off F i r s delta r j ne))
          ∙ xor_assoc (delta a j) (F.mul s (delta r j)) (F.mul s (delta r j))
          ∙ ap (bit_xor (delta a j)) (xor_self (F.mul s (delta r j)))
          ∙ xor_zero_r (delta a j)
      | inr d ↦ add-row-off F i r s (add_row F i r s delta) a j d ∙ add-row-off F i r s delta a j d
    ];
  }

  pub scale-row-through : (i s : ℕ) (A B : Mat) (a j : ℕ) → scale_row F i s (times F n A B) a j ≡ times F n (scale_row F i s A) B a j
  unfolding times
  scale-row-through i s A B a j =
      elim (cases_eq a i) [
        | inl e ↦
            scale-row-on F i s (times F n A B) a j e
            ∙ sum-mul F n s (λ k. F.mul (A a k) (B k j))
            ∙ sum-cong n _ _ (λ k l. sym (F.mul_assoc s (A a k) (B k j)) ∙ ap (λ x. F.mul x (B k j)) (sym (scale-row-on F i s A a k e)))
        | inr ne ↦
            scale-row-off F i s (times F n A B) a j ne
            ∙ sum-cong n _ _ (λ k l. ap (λ x. F.mul x (B k j)) (sym (scale-row-off F i s A a k ne)))
      ]

  pub scale-row-op : (i x : ℕ) → x < 2 ^ F.width → x ≢ 0 → RowOp F n (scale_row F i (F.inv x))
  scale-row-op i x hx nz = let s = F.inv x in record {
    through = scale-row-through i s;
    cong = λ A B h a j ha hj. elim (cases_eq a i) [
      | inl e ↦ scale-row-on F i s A a j e ∙ ap (F.mul s) (h a j ha hj) ∙ sym (scale-row-on F i s B a j e)
      | inr d ↦ scale-row-off F i s A a j d ∙ h a j ha hj ∙ sym (scale-row-off F i s B a j d)
    ];
    undo = scale_row F i x delta;
    undo-els = scale-row-els i x delta delta-lt;
    undone = λ a j ha hj. elim (cases_eq a i) [
      | inl e ↦
          scale-row-on F i s (scale_row F i x delta) a j e
          ∙ ap (F.mul s) (scale-row-on F i x delta a j e)
          ∙ sym (F.mul_assoc s x (delta a j))
          ∙ ap (λ y. F.mul y (delta a j)) (F.inv-mul x hx nz)
          ∙ F.one-mul (delta a j) (delta-lt a j)
      | inr d ↦ scale-row-off F i s (scale_row F i x delta) a j d ∙ scale-row-off F i x delta a j d
    ];
  }

  pub swap-rows-through : (i r : ℕ) (A B : Mat) (a j : ℕ) → swap_rows i r (times F n A B) a j ≡ times F n (swap_rows i r A) B a j
  unfolding times swap_rows
  swap-rows-through i r A B a j = refl

  pub swap-rows-op : (i r : ℕ) → i < n → r < n → RowOp F n (swap_rows i r)
  swap-rows-op i r hi hr = record {
    through = swap-rows-through i r;
    cong = λ A B h a j ha hj. elim (cases_eq a i) [
      | inl e ↦ swap-rows-first i r A a j e ∙ h r j hr hj ∙ sym (swap-rows-first i r B a j e)
      | inr d ↦ elim (cases_eq a r) [
        | inl e ↦ swap-rows-second i r A a j e ∙ h i j hi hj ∙ sym (swap-rows-second i r B a j e)
        | inr d' ↦ swap-rows-off i r A a j d d' ∙ h a j ha hj ∙ sym (swap-rows-off i r B a j d d')
      ]
    ];
    undo = swap_rows i r delta;
    undo-els = swap-rows-els i r delta delta-lt;
    undone = λ a j ha hj. elim (cases_eq a i) [
      | inl e ↦ swap-rows-first i r (swap_rows i r delta) a j e ∙ swap-rows-second i r delta r j refl ∙ ap (λ b. delta b j) (sym e)
      | inr d ↦ elim (cases_eq a r) [
        | inl e ↦ swap-rows-second i r (swap_rows i r delta) a j e ∙ swap-rows-first i r delta i j refl ∙ ap (λ b. delta b j) (sym e)
        | inr d' ↦ swap-rows-off i r (swap_rows i r delta) a j d d' ∙ swap-rows-off i r delta a j d d'
      ]
    ];
  }

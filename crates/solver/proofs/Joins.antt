-- The steps of elimination over tables that hold what a row operation gives. Assumes nothing.
use Rattle.std.proofs.Common.{◌≡◌, ℕ, ◌+◌, ◌^◌, ◌<◌, ◌≤◌, ◌≢◌, List, sym, refl, ap₂, ◌∙◌, subst, arith}
use Rattle.galois.specs.Arith.{Arith}
use Rattle.field.specs.declared.Field.{Ghosts}
use Rattle.matrix.specs.Matrix.{Mat, Same, Els, delta, add_row, scale_row, swap_rows}
use Rattle.matrix.specs.Steps.{State, Clearing}
use Rattle.matrix.proofs.Rows.{swap-rows-first}
use Rattle.matrix.proofs.Inverse.{inverses-agree, left-is-right}
use Rattle.matrix.proofs.Checks.{dependent-singular}
use Rattle.solver.proofs.Grid.{entries-elements}
use Rattle.solver.specs.Answers.{TheInverse, Vanishing}
use Rattle.solver.specs.Cells.{entries}
use Rattle.solver.specs.Squares.{matrix}
use Rattle.solver.specs.declared.Square.{Square}
use Rattle.matrix.proofs.Elim.{start, swapped, scaled, cleared, clearing-same, state-same, inverse-at-end, dependent-at-end}

module _ (F : Arith) (n : ℕ) where
  -- a table that is that of a call's contract, the other way round
  back : {k : ℕ} {A B : Mat} → k ≡ n → Same k A B → Same n B A
  back e h i j hi hj = sym (h i j (omega arith) (omega arith))

  -- row i is cleared in both tables, the second of order k
  pub cleared_both : {k m : ℕ} (M X X' Y Y' : Mat) (c r i s : ℕ) → k ≡ n → m ≡ n → X i c < 2 ^ F.width → i < n → i ≢ r → s ≡ X i c
      → Same n X' (add_row F i r s X) → Same k Y' (add_row F i r s Y) → Clearing F n M X Y c r i → Clearing F m M X' Y' c r (i + 1)
  cleared_both {k = k} M X X' Y Y' c r i s e e' lt hi ne v hx hy h =
      subst (λ m. Clearing F m M X' Y' c r (i + 1)) (sym e')
      (clearing-same F n M _ X' _ Y' c r (i + 1)
      (back refl (subst (λ v. Same n X' (add_row F i r v X)) v hx)) (back e (subst (λ v. Same k Y' (add_row F i r v Y)) v hy))
      (cleared F n M X Y c r i h hi ne lt))

  -- row p was exchanged with row r and scaled in both tables; each table has its order from another call
  pub pivot-taken : {k k' k'' m : ℕ} (M X X₁ X₂ Y Y₁ Y₂ : Mat) (c r p v : ℕ) → k ≡ n → k' ≡ n → k'' ≡ n → m ≡ n
      → c < n → r ≤ p → p < n → X p c ≢ 0 → X₁ r c < 2 ^ F.width
      → Same n X₁ (swap_rows r p X) → Same k Y₁ (swap_rows r p Y) → v ≡ F.inv (X₁ r c)
      → Same k' X₂ (scale_row F r v X₁) → Same k'' Y₂ (scale_row F r v Y₁)
      → State F n M X Y c r → Clearing F m M X₂ Y₂ c r 0
  pivot-taken {k' = k'} {k'' = k''} M X X₁ X₂ Y Y₁ Y₂ c r p v d d' d'' e' cn rp pn nz lt hx₁ hy₁ e hx₂ hy₂ s =
      let s₁ = state-same F n M _ X₁ _ Y₁ c r (omega arith) (back refl hx₁) (back d hy₁) (swapped F n M X Y c r p s rp pn) in
      let nz₁ : X₁ r c ≢ 0 = λ z. nz (sym (swap-rows-first r p X r c refl) ∙ sym (hx₁ r c (omega arith) cn) ∙ z) in
      subst (λ m. Clearing F m M X₂ Y₂ c r 0) (sym e')
      (clearing-same F n M _ X₂ _ Y₂ c r 0
      (back d' (subst (λ w. Same k' X₂ (scale_row F r w X₁)) e hx₂)) (back d'' (subst (λ w. Same k'' Y₂ (scale_row F r w Y₁)) e hy₂))
      (scaled F n M X₁ Y₁ c r s₁ cn lt nz₁))

-- the cells xs were the table t, and u the identity; elimination left t' and u', and u' is now the cells zs
module _ {X C : Type 0} {f : Ghosts X C} (t u t' u' : Square X C f) (xs : List C) {n k r : ℕ} {zs : List C} (wide : f.arith.width ≡ f.WIDTH)
    (made : (i j : ℕ) → matrix t i j ≡ entries f.WIDTH f.number n xs i j) (one : Same k (matrix u) delta)
    (run : (M : Mat) → State f.arith t.order M (matrix t) (matrix u) 0 0 → State f.arith t'.order M (matrix t') (matrix u') t.order r)
    (e : t.order ≡ n) (e' : t'.order ≡ n) (d : k ≡ n) (d' : u'.order ≡ n) (cells : u'.cells.now ≡ zs) where
  first : Els f.arith (entries f.WIDTH f.number n xs)
  first = entries-elements f.WIDTH f.number f.arith n xs wide

  second : Els f.arith (entries f.WIDTH f.number n zs)
  second = entries-elements f.WIDTH f.number f.arith n zs wide

  ended : State f.arith n (entries f.WIDTH f.number n xs) (matrix t') (entries f.WIDTH f.number n zs) n r
  ended =
      let M = entries f.WIDTH f.number n xs in
      let begun = start f.arith n M (matrix t) (matrix u) first (λ i j _ _. sym (made i j)) (λ i j hi hj. sym (one i j (omega arith) (omega arith))) in
      subst (λ Y. State f.arith n M (matrix t') Y n r) (ap₂ (entries f.WIDTH f.number) d' cells)
      (subst (λ m. State f.arith m M (matrix t') (matrix u') n r) e'
      (subst (λ m. State f.arith t'.order M (matrix t') (matrix u') m r) e
      (run M (subst (λ m. State f.arith m M (matrix t) (matrix u) 0 0) (sym e) begun))))

  pub inverted : n ≤ r → TheInverse f.arith n (entries f.WIDTH f.number n xs) (entries f.WIDTH f.number n zs)
  inverted h =
      let M = entries f.WIDTH f.number n xs in
      let Y = entries f.WIDTH f.number n zs in
      let left = inverse-at-end f.arith n M (matrix t') Y r ended h in
      let right = left-is-right f.arith n Y M second first left in
      record {
        left = left;
        right = right;
        only_left = λ Z hz e. inverses-agree f.arith n Z M Y hz second e right;
        only_right = λ Z hz e. back f.arith n refl (inverses-agree f.arith n Y M Z second hz left e);
      }

  pub vanished : r < n → Vanishing f.arith n (entries f.WIDTH f.number n xs) (entries f.WIDTH f.number n zs) r
  vanished h =
      let M = entries f.WIDTH f.number n xs in
      let Y = entries f.WIDTH f.number n zs in
      let d = dependent-at-end f.arith n M (matrix t') Y r ended h in
      record {
        row = h;
        combination = d;
        singular = dependent-singular f.arith n M (Y r) first (λ j _. second r j) d;
      }

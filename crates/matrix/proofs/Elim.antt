-- Elimination on matrices: what each step keeps, and what stands at the end. Assumes nothing.
use Rattle.std.proofs.Common.{◌≡◌, ℕ, zero, suc, ◌+◌, ◌^◌, ◌<◌, ◌≤◌, ◌≢◌, ◌⊎◌, sym, refl, ap, ◌∙◌, ap₂, inl, inr, arith}
use lib.Bits.{bit_xor, xor_self, xor_zero_r}
use Rattle.std.proofs.lemmas.Bool.{cases_eq}
use Rattle.galois.specs.Arith.{Arith}
use Rattle.matrix.specs.Matrix.{Mat, delta, times, Same, Els, add_row, scale_row, swap_rows, Dependent}
use Rattle.matrix.specs.Steps.{State, Clearing}
use Rattle.matrix.proofs.Sums.{sum-some, mul-zero, zero-mul, mul-one, delta-on, delta-off, delta-times}
use Rattle.matrix.proofs.Rows.{keeps, tied-same, delta-lt, add-row-on, add-row-off, scale-row-on, scale-row-off, swap-rows-first, swap-rows-second, swap-rows-off, add-row-op, scale-row-op, swap-rows-op, add-row-els, scale-row-els, swap-rows-els}

module _ (F : Arith) (n : ℕ) (M : Mat) where
  pub start : (X Y : Mat) → Els F M → Same n M X → Same n delta Y → State F n M X Y 0 0
  start X Y h hx hy = record {
    tied = tied-same F n M M X delta Y hx hy (record {
      made = λ i j hi hj. delta-times F n M i j hi (h i j);
      back = delta;
      backed = λ i j hi hj. delta-times F n delta i j hi (delta-lt F n i j);
    });
    low = omega arith;
    zeros = λ a j h₁ h₂ h₃. omega arith;
    units = λ e a j h₁ h₂. omega arith;
  }

  pub clearing-same : (X X' Y Y' : Mat) (c r i : ℕ) → Same n X X' → Same n Y Y' → Clearing F n M X Y c r i → Clearing F n M X' Y' c r i
  clearing-same X X' Y Y' c r i hx hy s = let l = s.low in let cn = s.col in record {
    tied = tied-same F n M X X' Y Y' hx hy s.tied;
    low = s.low;
    col = s.col;
    head = sym (hx r c (omega arith) (omega arith)) ∙ s.head;
    zeros = λ a j h₁ h₂ h₃. sym (hx a j h₂ (omega arith)) ∙ s.zeros a j h₁ h₂ h₃;
    units = λ e a j h₁ h₂. sym (hx a j h₁ (omega arith)) ∙ s.units e a j h₁ h₂;
    done = λ a h₁ h₂ h₃. sym (hx a c h₂ (omega arith)) ∙ s.done a h₁ h₂ h₃;
  }

  pub state-same : (X X' Y Y' : Mat) (c r : ℕ) → c ≤ n → Same n X X' → Same n Y Y' → State F n M X Y c r → State F n M X' Y' c r
  state-same X X' Y Y' c r cn hx hy s = record {
    tied = tied-same F n M X X' Y Y' hx hy s.tied;
    low = s.low;
    zeros = λ a j h₁ h₂ h₃. sym (hx a j h₂ (omega arith)) ∙ s.zeros a j h₁ h₂ h₃;
    units = λ e a j h₁ h₂. sym (hx a j h₁ (omega arith)) ∙ s.units e a j h₁ h₂;
  }

  -- no pivot in column c
  pub pass : (X Y : Mat) (c r : ℕ) → State F n M X Y c r → ((a : ℕ) → r ≤ a → a < n → X a c ≡ 0) → State F n M X Y (c + 1) r
  pass X Y c r s h = let l = s.low in record {
    tied = s.tied;
    low = omega arith;
    zeros = λ a j h₁ h₂ h₃. elim (cases_eq j c) [
      | inl e ↦ ap (X a) e ∙ h a h₁ h₂
      | inr ne ↦ s.zeros a j h₁ h₂ (omega arith)
    ];
    units = λ e a j h₁ h₂. omega arith;
  }

  -- the pivot row p goes to place r
  pub swapped : (X Y : Mat) (c r p : ℕ) → State F n M X Y c r → r ≤ p → p < n → State F n M (swap_rows r p X) (swap_rows r p Y) c r
  swapped X Y c r p s hp pn = record {
    tied = keeps F n (swap_rows r p) M X Y (swap-rows-op F n r p (omega arith) pn) s.tied;
    low = s.low;
    zeros = λ a j h₁ h₂ h₃. zs a j h₁ h₂ h₃;
    units = λ e a j h₁ h₂. elim (cases_eq a r) [
      | inl d ↦ zs a j (omega arith) h₁ h₂ ∙ sym (delta-off a j (λ f. omega arith))
      | inr d ↦ elim (cases_eq a p) [
        | inl d' ↦ zs a j (omega arith) h₁ h₂ ∙ sym (delta-off a j (λ f. omega arith))
        | inr d' ↦ swap-rows-off r p X a j d d' ∙ s.units e a j h₁ h₂
      ]
    ];
  }
    where
      zs : (a j : ℕ) → r ≤ a → a < n → j < c → swap_rows r p X a j ≡ 0
      zs a j h₁ h₂ h₃ = elim (cases_eq a r) [
        | inl d ↦ swap-rows-first r p X a j d ∙ s.zeros p j hp pn h₃
        | inr d ↦ elim (cases_eq a p) [
          | inl d' ↦ swap-rows-second r p X a j d' ∙ s.zeros r j (omega arith) (omega arith) h₃
          | inr d' ↦ swap-rows-off r p X a j d d' ∙ s.zeros a j h₁ h₂ h₃
        ]
      ]

  -- the pivot becomes 1
  pub scaled : (X Y : Mat) (c r : ℕ) → State F n M X Y c r → c < n → X r c < 2 ^ F.width → X r c ≢ 0
      → Clearing F n M (scale_row F r (F.inv (X r c)) X) (scale_row F r (F.inv (X r c)) Y) c r 0
  scaled X Y c r s cn lt nz = let l = s.low in let v = F.inv (X r c) in record {
    tied = keeps F n (scale_row F r v) M X Y (scale-row-op F n r (X r c) lt nz) s.tied;
    low = s.low;
    col = cn;
    head = scale-row-on F r v X r c refl ∙ F.inv-mul (X r c) lt nz;
    zeros = λ a j h₁ h₂ h₃. elim (cases_eq a r) [
      | inl d ↦ scale-row-on F r v X a j d ∙ ap (F.mul v) (s.zeros a j h₁ h₂ h₃) ∙ mul-zero F v
      | inr d ↦ scale-row-off F r v X a j d ∙ s.zeros a j h₁ h₂ h₃
    ];
    units = λ e a j h₁ h₂. elim (cases_eq a r) [
      | inl d ↦ scale-row-on F r v X a j d ∙ ap (F.mul v) (s.zeros a j (omega arith) h₁ h₂) ∙ mul-zero F v ∙ sym (delta-off a j (λ f. omega arith))
      | inr d ↦ scale-row-off F r v X a j d ∙ s.units e a j h₁ h₂
    ];
    done = λ a h₁ h₂ h₃. omega arith;
  }

  pub cleared : (X Y : Mat) (c r i : ℕ) → Clearing F n M X Y c r i → i < n → i ≢ r → X i c < 2 ^ F.width
      → Clearing F n M (add_row F i r (X i c) X) (add_row F i r (X i c) Y) c r (i + 1)
  cleared X Y c r i s hi ne lt = let l = s.low in let cn = s.col in let v = X i c in record {
    tied = keeps F n (add_row F i r v) M X Y (add-row-op F n i r v (λ e. ne (sym e)) (omega arith)) s.tied;
    low = s.low;
    col = s.col;
    head = add-row-off F i r v X r c (λ e. ne (sym e)) ∙ s.head;
    zeros = λ a j h₁ h₂ h₃. same a j h₃ ∙ s.zeros a j h₁ h₂ h₃;
    units = λ e a j h₁ h₂. same a j h₂ ∙ s.units e a j h₁ h₂;
    done = λ a h₁ h₂ h₃. elim (cases_eq a i) [
      | inl e ↦
          add-row-on F i r v X a c e
          ∙ ap₂ bit_xor (ap (λ b. X b c) e) (ap (F.mul v) s.head ∙ mul-one F v lt)
          ∙ xor_self v
      | inr d ↦ add-row-off F i r v X a c d ∙ s.done a (omega arith) h₂ h₃
    ];
  }
    where
      same : (a j : ℕ) → j < c → add_row F i r (X i c) X a j ≡ X a j
      same a j h = let l = s.low in let cn = s.col in elim (cases_eq a i) [
        | inl e ↦
            add-row-on F i r (X i c) X a j e
            ∙ ap (bit_xor (X a j)) (ap (F.mul (X i c)) (s.zeros r j (omega arith) (omega arith) h) ∙ mul-zero F (X i c))
            ∙ xor_zero_r (X a j)
        | inr d ↦ add-row-off F i r (X i c) X a j d
      ]

  -- the pivot's own row is passed over
  pub kept : (X Y : Mat) (c r i : ℕ) → Clearing F n M X Y c r i → i ≡ r → Clearing F n M X Y c r (i + 1)
  kept X Y c r i s e = record {
    tied = s.tied;
    low = s.low;
    col = s.col;
    head = s.head;
    zeros = s.zeros;
    units = s.units;
    done = λ a h₁ h₂ h₃. s.done a (let d : a ≢ i = λ f. h₃ (f ∙ e) in omega arith) h₂ h₃;
  }

  -- a row that has 0 in column c already
  pub blank : (X Y : Mat) (c r i : ℕ) → Clearing F n M X Y c r i → X i c ≡ 0 → Clearing F n M X Y c r (i + 1)
  blank X Y c r i s z = record {
    tied = s.tied;
    low = s.low;
    col = s.col;
    head = s.head;
    zeros = s.zeros;
    units = s.units;
    done = λ a h₁ h₂ h₃. elim (cases_eq a i) [ inl e ↦ ap (λ b. X b c) e ∙ z | inr d ↦ s.done a (omega arith) h₂ h₃ ];
  }

  pub next : (X Y : Mat) (c r i : ℕ) → n ≤ i → Clearing F n M X Y c r i → State F n M X Y (c + 1) (r + 1)
  next X Y c r i hi s = let l = s.low in record {
    tied = s.tied;
    low = omega arith;
    zeros = λ a j h₁ h₂ h₃. elim (cases_eq j c) [
      | inl e ↦ ap (X a) e ∙ s.done a (omega arith) h₂ (λ f. omega arith)
      | inr ne ↦ s.zeros a j (omega arith) h₂ (omega arith)
    ];
    units = λ e a j h₁ h₂. elim (cases_eq j c) [
      | inl d ↦ elim (cases_eq a r) [
        | inl f ↦ ap₂ X f d ∙ s.head ∙ sym (delta-on a j (omega arith))
        | inr f ↦ ap (X a) d ∙ s.done a (omega arith) h₁ f ∙ sym (delta-off a j (λ f'. f (omega arith)))
      ]
      | inr ne ↦ s.units (omega arith) a j h₁ (omega arith)
    ];
  }

  pub inverse-at-end : (X Y : Mat) (r : ℕ) → State F n M X Y n r → n ≤ r → Same n (times F n Y M) delta
  inverse-at-end X Y r s h i j hi hj = let l = s.low in s.tied.made i j hi hj ∙ s.units (omega arith) i j hi hj

  pub dependent-at-end : (X Y : Mat) (r : ℕ) → State F n M X Y n r → r < n → Dependent F n M (Y r)
  unfolding times
  dependent-at-end X Y r s h =
      let t = sum-some n (λ k. F.mul (Y r k) (s.tied.back k r)) (λ z. let o : ◌≡◌ {A = ℕ} 0 1 = sym z ∙ s.tied.backed r r h h ∙ delta-on r r refl in omega arith) in
      record {
        at = t.0;
        at_lt = t.1;
        nonzero = λ z. t.2 (ap (λ x. F.mul x (s.tied.back t.0 r)) z ∙ zero-mul F _);
        vanish = λ j hj. s.tied.made r j h hj ∙ s.zeros r j (omega arith) h hj;
      }

  -- the rest of a clearing
  clear-all : (d i : ℕ) (X Y : Mat) (c r : ℕ) → i + d ≡ n → Els F X → Els F Y → Clearing F n M X Y c r i
      → (X' : Mat) × (Y' : Mat) × (Els F X') × (Els F Y') × (State F n M X' Y' (c + 1) (r + 1))
  clear-all zero i X Y c r e hx hy s = (X, Y, hx, hy, next X Y c r i (omega arith) s)
  clear-all (suc d) i X Y c r e hx hy s =
      elim (cases_eq i r) [
        | inl f ↦ clear-all d (i + 1) X Y c r (omega arith) hx hy (kept X Y c r i s f)
        | inr f ↦ clear-all d (i + 1) _ _ c r (omega arith) (add-row-els F n i r (X i c) X hx) (add-row-els F n i r (X i c) Y hy) (cleared X Y c r i s (omega arith) f (hx i c))
      ]

  look : (X : Mat) (c d r : ℕ) → r + d ≡ n → ((p : ℕ) × (r ≤ p) × (p < n) × (X p c ≢ 0)) ⊎ ((a : ℕ) → r ≤ a → a < n → X a c ≡ 0)
  look X c zero r e = inr (λ a h₁ h₂. omega arith)
  look X c (suc d) r e =
      elim (cases_eq (X r c) 0) [
        | inl z ↦ elim (look X c d (r + 1) (omega arith)) [
          | inl t ↦ let h = t.1 in inl (t.0, omega arith, t.2, t.3)
          | inr f ↦ inr (λ a h₁ h₂. elim (cases_eq a r) [
            | inl e' ↦ ap (λ b. X b c) e' ∙ z
            | inr ne ↦ f a (omega arith) h₂
          ])
        ]
        | inr nz ↦ inl (r, omega arith, omega arith, nz)
      ]

  pub column : (X Y : Mat) (c r d : ℕ) → r + d ≡ n → c < n → Els F X → Els F Y → State F n M X Y c r
      → (X' : Mat) × (Y' : Mat) × (r' : ℕ) × (Els F X') × (Els F Y') × (State F n M X' Y' (c + 1) r')
  column X Y c r d e cn hx hy s =
      elim (look X c d r e) [
        | inl t ↦
            let p = t.0 in
            let s₁ = swapped X Y c r p s t.1 t.2 in
            let X₁ = swap_rows r p X in
            let Y₁ = swap_rows r p Y in
            let hx₁ = swap-rows-els F n r p X hx in
            let hy₁ = swap-rows-els F n r p Y hy in
            let nz : X₁ r c ≢ 0 = λ z. t.3 (sym (swap-rows-first r p X r c refl) ∙ z) in
            let s₂ = scaled X₁ Y₁ c r s₁ cn (hx₁ r c) nz in
            let v = F.inv (X₁ r c) in
            let q = clear-all n 0 _ _ c r (omega arith) (scale-row-els F n r v X₁ hx₁) (scale-row-els F n r v Y₁ hy₁) s₂ in
            (q.0, q.1, r + 1, q.2, q.3, q.4)
        | inr f ↦ (X, Y, r, hx, hy, pass X Y c r s f)
      ]

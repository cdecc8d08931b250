-- The systematic form, singular and blinded blocks. Assumes nothing.
use Rattle.std.proofs.Common.{◌≡◌, ℕ, zero, suc, ◌+◌, ◌-◌, ◌^◌, ◌<◌, cond, ltb, sym, ap, ◌∙◌, subst, ap₂, inl, inr, add-zero, arith, pow_pos}
use lib.Bits.{bit_xor, xor_assoc, xor_self, xor_zero_l, xor_zero_r, xor_lt}
use Rattle.std.proofs.lemmas.Bool.{cases_lt, cond-true, cond-false, lt-ltb, le-ltb}
use Rattle.galois.specs.Arith.{Arith}
use Rattle.matrix.specs.Matrix.{Mat, sum, delta, times, Elements, Els, Dependent, apply, apply_row}
use Rattle.matrix.specs.Words.{Passes, from_column, unit_and, Systematic, TheOnly, LeftInverse, Singular, SameBlinded, Inverses, Algebra}
use Rattle.matrix.proofs.Sums.{sum-cong, sum-zero, row-assoc, mul-zero, times-assoc, times-left, times-right, delta-times, times-delta, sum-mul, mul-sum, sum-swap}
use Rattle.matrix.proofs.Rows.{delta-lt}
use Rattle.matrix.proofs.Inverse.{decided, inverses-agree, left-is-right, no-dependence}

pub sum-split : (r k : ℕ) (f : ℕ → ℕ) → sum (r + k) f ≡ bit_xor (sum r f) (sum k (λ j. f (r + j)))
unfolding sum
sum-split r zero f = ap (λ n. sum n f) (add-zero r) ∙ sym (xor_zero_r (sum r f))
sum-split r (suc k) f =
    let q : r + suc k ≡ suc (r + k) = omega arith in
    ap (λ n. sum n f) q ∙ ap (λ x. bit_xor x (f (r + k))) (sum-split r k f) ∙ xor_assoc (sum r f) (sum k (λ j. f (r + j))) (f (r + k))

pub unit_left : (r : ℕ) (T : Mat) (i j : ℕ) → j < r → unit_and r T i j ≡ delta i j
unfolding unit_and
unit_left r T i j h = cond-true (ltb j r) _ _ (lt-ltb j r h)

pub unit-right : (r : ℕ) (T : Mat) (i j : ℕ) → unit_and r T i (r + j) ≡ T i j
unfolding unit_and
unit-right r T i j = let q : r + j - r ≡ j = omega arith in cond-false (ltb (r + j) r) _ _ (le-ltb (r + j) r (omega arith)) ∙ ap (T i) q

pub xor-equal : (a b : ℕ) → bit_xor a b ≡ 0 → b ≡ a
xor-equal a b e = sym (xor_zero_l b) ∙ ap (λ x. bit_xor x b) (sym (xor_self a)) ∙ xor_assoc a a b ∙ ap (bit_xor a) e ∙ xor_zero_r a

module _ (F : Arith) where
  -- rows times a matrix of r rows, then a word of n elements
  pub apply-times : (r n : ℕ) (A B : Mat) (w : ℕ → ℕ) (i : ℕ) → sum r (λ l. F.mul (A i l) (apply F n B w l)) ≡ apply F n (times F r A B) w i
  unfolding apply times
  apply-times r n A B w i = sym (
      sum-cong n _ _ (λ k h. mul-sum F r (w k) (λ l. F.mul (A i l) (B l k)) ∙ sum-cong r _ _ (λ l h'. F.mul_assoc (A i l) (B l k) (w k)))
      ∙ sum-swap n r (λ k l. F.mul (A i l) (F.mul (B l k) (w k)))
      ∙ sum-cong r _ _ (λ l h. sym (sum-mul F n (A i l) (λ k. F.mul (B l k) (w k)))))

  apply-cong : (n : ℕ) (A B : Mat) (w : ℕ → ℕ) (i : ℕ) → ((j : ℕ) → j < n → A i j ≡ B i j) → apply F n A w i ≡ apply F n B w i
  unfolding apply
  apply-cong n A B w i h = sum-cong n _ _ (λ j l. ap (λ x. F.mul x (w j)) (h j l))

  apply-zero : (n : ℕ) (A : Mat) (w : ℕ → ℕ) (i : ℕ) → ((j : ℕ) → j < n → w j ≡ 0) → apply F n A w i ≡ 0
  unfolding apply
  apply-zero n A w i h = sum-zero n _ (λ j l. ap (F.mul (A i j)) (h j l) ∙ mul-zero F (A i j))

  sum_lt : (n : ℕ) (f : ℕ → ℕ) → ((k : ℕ) → f k < 2 ^ F.width) → sum n f < 2 ^ F.width
  unfolding sum
  sum_lt zero f h = pow_pos F.width
  sum_lt (suc n) f h = xor_lt F.width (sum n f) (f n) (sum_lt n f h) (h n)

  pub times-lt : (n : ℕ) (A B : Mat) → Els F (times F n A B)
  unfolding times
  times-lt n A B i j = sum_lt n (λ k. F.mul (A i k) (B k j)) (λ k. F.mul-lt (A i k) (B k j))

  -- the word of column j of T: it, and 1 at place r + j
  unfoldable probe : ℕ → Mat → ℕ → ℕ → ℕ
  probe r T j a = cond (ltb a r) (T a j) (delta (a - r) j)

  probe-left : (r : ℕ) (T : Mat) (j a : ℕ) → a < r → probe r T j a ≡ T a j
  unfolding probe
  probe-left r T j a h = cond-true (ltb a r) _ _ (lt-ltb a r h)

  probe-right : (r : ℕ) (T : Mat) (j b : ℕ) → probe r T j (r + b) ≡ delta b j
  unfolding probe
  probe-right r T j b = let q : r + b - r ≡ b = omega arith in cond-false (ltb (r + b) r) _ _ (le-ltb (r + b) r (omega arith)) ∙ ap (λ x. delta x j) q

  probe-word : (r k : ℕ) (T : Mat) (j : ℕ) → ((i : ℕ) → i < r → T i j < 2 ^ F.width) → Elements F.width (r + k) (probe r T j)
  probe-word r k T j h a l = elim (cases_lt a r) [
    | inl m ↦ subst (λ x. x < 2 ^ F.width) (sym (probe-left r T j a m)) (h a m)
    | inr m ↦ let q : r + (a - r) ≡ a = omega arith in subst (λ x. x < 2 ^ F.width) (sym (probe-right r T j (a - r)) ∙ ap (probe r T j) q) (delta-lt F 0 (a - r) j)
  ]

  probed : (r k : ℕ) (T T' : Mat) (i j : ℕ) → i < r → j < k → T i j < 2 ^ F.width → T' i j < 2 ^ F.width →
      apply F (r + k) (unit_and r T') (probe r T j) i ≡ bit_xor (T i j) (T' i j)
  unfolding apply times
  probed r k T T' i j hi hj ht ht' =
      sum-split r k (λ a. F.mul (unit_and r T' i a) (probe r T j a))
      ∙ ap₂ bit_xor
      (sum-cong r _ _ (λ a h. ap₂ F.mul (unit_left r T' i a h) (probe-left r T j a h)) ∙ delta-times F r T i j hi ht)
      (sum-cong k _ _ (λ b h. ap₂ F.mul (unit-right r T' i b) (probe-right r T j b)) ∙ times-delta F k T' i j hj ht')

  -- two systematic forms are one
  pub same-form : (r k : ℕ) (H T T' : Mat) → Systematic F r k H T → Systematic F r k H T' → (i j : ℕ) → i < r → j < k → T' i j ≡ T i j
  same-form r k H T T' s s' i j hi hj =
      let w = probe r T j in
      let ok = probe-word r k T j (λ a h. s.elements a j h hj) in
      let own : Passes F r (r + k) (unit_and r T) w = λ a h. probed r k T T a j h hj (s.elements a j h hj) (s.elements a j h hj) ∙ xor_self (T a j) in
      xor-equal (T i j) (T' i j) (
      sym (probed r k T T' i j hi hj (s.elements i j hi hj) (s'.elements i j hi hj))
      ∙ s'.complete w ok (s.sound w ok own) i hi)

  module _ (r k : ℕ) (H S : Mat) (hh : Els F H) (inv : LeftInverse F r H S) where
    form-right : (i j : ℕ) → r + (j - r) ≡ j → times F r S (from_column r H) i (j - r) ≡ times F r S H i j
    unfolding times
    form-right i j q = ap (λ x. sum r (λ l. F.mul (S i l) (H l x))) q

    -- (I|T) is S times H
    form : (i j : ℕ) → i < r → unit_and r (times F r S (from_column r H)) i j ≡ times F r S H i j
    form i j hi = elim (cases_lt j r) [
      | inl l ↦ unit_left r (times F r S (from_column r H)) i j l ∙ sym (inv.undoes i j hi l)
      | inr l ↦ let q : r + (j - r) ≡ j = omega arith in
          ap (unit_and r (times F r S (from_column r H)) i) (sym q) ∙ unit-right r (times F r S (from_column r H)) i (j - r) ∙ form-right i j q
    ]

    -- and H is its own first r columns times (I|T)
    back : (i j : ℕ) → i < r → times F r H (unit_and r (times F r S (from_column r H))) i j ≡ H i j
    back i j hi =
        times-right F r H (unit_and r (times F r S (from_column r H))) (times F r S H) i j (λ l hl. form l j hl)
        ∙ sym (times-assoc F r H S H i j)
        ∙ times-left F r (times F r H S) delta H i j (λ l hl. left-is-right F r S H inv.elements hh inv.undoes i l hi hl)
        ∙ delta-times F r H i j hi (hh i j)

    pub is-systematic : Systematic F r k H (times F r S (from_column r H))
    is-systematic = record {
      elements = λ i j hi hj. times-lt r S (from_column r H) i j;
      sound = λ w ok p i hi.
          apply-cong (r + k) _ _ w i (λ j hj. sym (back i j hi))
          ∙ sym (apply-times r (r + k) H (unit_and r (times F r S (from_column r H))) w i)
          ∙ sum-zero r _ (λ l hl. ap (F.mul (H i l)) (p l hl) ∙ mul-zero F (H i l));
      complete = λ w ok p i hi.
          apply-cong (r + k) _ _ w i (λ j hj. form i j hi)
          ∙ sym (apply-times r (r + k) S H w i)
          ∙ sum-zero r _ (λ l hl. ap (F.mul (S i l)) (p l hl) ∙ mul-zero F (S i l));
    }

  pub dependent-singular : (n : ℕ) (M : Mat) (v : ℕ → ℕ) → Els F M → Elements F.width n v → Dependent F n M v → Singular F n M
  dependent-singular n M v hm hv d =
      let u : ℕ → ℕ = λ a. cond (ltb a n) (v a) 0 in
      let at-u : (a : ℕ) → a < n → u a ≡ v a = λ a h. cond-true (ltb a n) (v a) 0 (lt-ltb a n h) in
      let hu : (a : ℕ) → u a < 2 ^ F.width = λ a. elim (cases_lt a n) [
        | inl h ↦ subst (λ x. x < 2 ^ F.width) (sym (at-u a h)) (hv a h)
        | inr h ↦ subst (λ x. x < 2 ^ F.width) (sym (cond-false (ltb a n) (v a) 0 (le-ltb a n h))) (pow_pos F.width)
      ] in
      let d' : Dependent F n M u = record {
        at = d.at;
        at_lt = d.at_lt;
        nonzero = λ e. d.nonzero (sym (at-u d.at d.at_lt) ∙ e);
        vanish = λ j hj. sum-cong n _ _ (λ l hl. ap (λ x. F.mul x (M l j)) (at-u l hl)) ∙ d.vanish j hj;
      } in
      record {
        no_left = λ X hx e. no-dependence F n M X u hu (left-is-right F n X M hx hm e) d';
        no_right = λ X hx e. no-dependence F n M X u hu e d';
      }

  reblind : (n : ℕ) (H H' S' R : Mat) → Els F H' → LeftInverse F n H' S' → TheOnly n n (SameBlinded F n R H H') (times F n (times F n R H) S')
  reblind n H H' S' R hh' inv = record {
    has = record {
      elements = λ i j hi hj. times-lt n (times F n R H) S' i j;
      alike = λ i j hi hj.
          times-assoc F n (times F n R H) S' H' i j
          ∙ times-right F n (times F n R H) (times F n S' H') delta i j (λ l hl. inv.undoes l j hl hj)
          ∙ times-delta F n (times F n R H) i j hj (times-lt n R H i j);
    };
    only = λ R'' b i j hi hj.
        sym (times-delta F n R'' i j hj (b.elements i j hi hj))
        ∙ times-right F n R'' delta (times F n H' S') i j (λ l hl. sym (left-is-right F n S' H' inv.elements hh' inv.undoes l j hl hj))
        ∙ sym (times-assoc F n R'' H' S' i j)
        ∙ times-left F n (times F n R'' H') (times F n R H) S' i j (λ l hl. b.alike i l hi hl);
  }

  pub algebra : Algebra F
  algebra = record {
    systematic = λ r k H S hh inv. record {
      has = is-systematic r k H S hh inv;
      only = λ T' s'. same-form r k H (times F r S (from_column r H)) T' (is-systematic r k H S hh inv) s';
    };
    singular = dependent-singular;
    unblinded = λ n R H S inv. record {
      elements = times-lt n S R;
      undoes = λ i j hi hj. times-assoc F n S R H i j ∙ inv.undoes i j hi hj;
    };
    reblinded = λ n H H' S' R hh' inv. (times F n (times F n R H) S', reblind n H H' S' R hh' inv);
  }

  sides : (n : ℕ) (v : ℕ → ℕ) (A : Mat) (w : ℕ → ℕ) → sum n (λ k. F.mul (apply_row F n A v k) (w k)) ≡ sum n (λ k. F.mul (v k) (apply F n A w k))
  unfolding apply apply_row
  sides n v A w = row-assoc F n v A w

  pub inverses : Inverses F
  inverses = record {
    associates = times-assoc F;
    sides = sides;
    two_sided = λ n M S hm inv. left-is-right F n S M inv.elements hm inv.undoes;
    unique = λ n M S S' hm inv inv'.
        inverses-agree F n S M S' inv.elements inv'.elements inv.undoes (left-is-right F n S' M inv'.elements hm inv'.undoes);
    decided = λ n M hm. elim (decided F n M hm) [
      | inl t ↦ inl (t.0, record { elements = t.1; undoes = t.2 })
      | inr t ↦ inr (t.0, (λ k l. t.1 k), t.2)
    ];
  }

-- Adding a multiple of the terms of F(y) to a polynomial, term by term. Assumes nothing.
use Rattle.std.proofs.Common.{◌≡◌, ℕ, zero, suc, ◌+◌, ◌-◌, ◌<◌, ◌≤◌, add-one, true, eqb, List, [], ◌∷◌, length, get_or, set, drop, sym, refl, ap, ◌∙◌, ap₂, subst, inl, inr, arith}
use lib.Bits.{bit_xor, xor_assoc, xor_zero_l, xor_zero_r}
use Rattle.std.proofs.lemmas.Bool.{cases_eq, cond-true, cond-false, eq-eqb, ne_eqb, and_parts, ltb-true}
use Rattle.std.proofs.lemmas.List.{get_or-set_same, get_or-set_other, drop_all}
use Rattle.std.proofs.Math.Seq.{drop-cons}
use Rattle.galois.specs.Arith.{Arith}
use Rattle.galois.specs.Gf.{times}
use Rattle.matrix.proofs.Sums.{mul-zero}
use Rattle.params.specs.Known.{below}
use Rattle.params.specs.declared.numbers.Term.{Term}
use Rattle.quotient.specs.Quotient.{raised, times_y}
use Rattle.maker.specs.Maker.{low_of}
use Rattle.maker.proofs.Field.{IsField, one-product}

-- the terms of a reduced set stand below y^t
pub power-below : (m t : ℕ) (xs : List Term) (k : ℕ) (d : Term) → below m t xs ≡ true → k < length xs → (get_or xs k d).power < t
power-below m t [] k d h l = absurd (omega arith)
power-below m t (x ∷ xs) zero d h l = ltb-true x.power t (and_parts _ _ (and_parts _ _ h).0).0
power-below m t (x ∷ xs) (suc k) d h l = power-below m t xs k d (and_parts _ _ h).1 (omega arith)

-- the term at the head adds at its own power alone
low-on : (x : Term) (xs : List Term) (i : ℕ) → i ≡ x.power → low_of (x ∷ xs) i ≡ bit_xor x.coefficient (low_of xs i)
unfolding low_of
low-on x xs i e = ap (λ v. bit_xor v (low_of xs i)) (cond-true (eqb x.power i) x.coefficient 0 (eq-eqb x.power i (sym e)))

low-off : (x : Term) (xs : List Term) (i : ℕ) → (i ≡ x.power → ⊥) → low_of (x ∷ xs) i ≡ low_of xs i
unfolding low_of
low-off x xs i ne = ap (λ v. bit_xor v (low_of xs i)) (cond-false (eqb x.power i) x.coefficient 0 (ne_eqb x.power i (λ e. ne (sym e)))) ∙ xor_zero_l (low_of xs i)

low-none : (i : ℕ) → low_of [] i ≡ 0
unfolding low_of
low-none i = refl

module _ (K : Arith) (top : ℕ) where
  -- with a term added at its power, what is left to add is the terms after it
  pub term-added : (p : List ℕ) (x : Term) (rest : List Term) (v i : ℕ) → x.power < length p → v ≡ K.mul top x.coefficient
      → bit_xor (get_or (set p x.power (bit_xor (get_or p x.power 0) v)) i 0) (K.mul top (low_of rest i)) ≡ bit_xor (get_or p i 0) (K.mul top (low_of (x ∷ rest) i))
  term-added p x rest v i l e = elim (cases_eq i x.power) [
    | inl q ↦
        ap (λ y. bit_xor y (K.mul top (low_of rest i))) (
        ap (λ j. get_or (set p x.power (bit_xor (get_or p x.power 0) v)) j 0) q
        ∙ get_or-set_same p x.power (bit_xor (get_or p x.power 0) v) 0 l
        ∙ ap (λ j. bit_xor (get_or p j 0) v) (sym q))
        ∙ xor_assoc (get_or p i 0) v (K.mul top (low_of rest i))
        ∙ ap (bit_xor (get_or p i 0)) (
        ap (λ y. bit_xor y (K.mul top (low_of rest i))) e
        ∙ sym (K.mul-xor top x.coefficient (low_of rest i))
        ∙ ap (K.mul top) (sym (low-on x rest i q)))
    | inr ne ↦ ap₂ bit_xor (get_or-set_other p x.power i (bit_xor (get_or p x.power 0) v) 0 ne) (ap (K.mul top) (sym (low-off x rest i ne)))
  ]

  -- with no term left, all are added
  pub terms-added : (p : ℕ) (i : ℕ) → bit_xor p (K.mul top (low_of [] i)) ≡ p
  terms-added p i = ap (bit_xor p) (ap (K.mul top) (low-none i) ∙ mul-zero K top) ∙ xor_zero_r p

-- a polynomial whose coefficients were moved up by one, with 0 at the first place
pub moved-up : (t : ℕ) (old new : List ℕ) → length new ≡ t → ((k : ℕ) (d : ℕ) → 1 ≤ k → k < 1 + (t - 1 - 0) → get_or new k d ≡ get_or old (0 + (k - 1)) d)
    → (i : ℕ) → i < t → get_or (set new 0 0) i 0 ≡ raised (λ j. get_or old j 0) i
moved-up t old new e h zero l = get_or-set_same new 0 0 0 (omega arith)
moved-up t old new e h (suc i) l =
    get_or-set_other new 0 (suc i) 0 0 (λ q. omega arith)
    ∙ h (suc i) 0 (omega arith) (omega arith)
    ∙ ap (λ j. get_or old j 0) (let q : 0 + (suc i - 1) ≡ i = omega arith in q)

module _ (K : Arith) (m f : ℕ) (field : IsField K m f) where
  -- one step of the loop over the terms xs, of which k are added
  pub step : (p : List ℕ) (xs : List Term) (k : ℕ) (d : Term) (top v i : ℕ) → k < length xs → (get_or xs k d).power < length p → v ≡ times m f top (get_or xs k d).coefficient
      → bit_xor (get_or (set p (get_or xs k d).power (bit_xor (get_or p (get_or xs k d).power 0) v)) i 0) (times m f top (low_of (drop (k + 1) xs) i))
      ≡ bit_xor (get_or p i 0) (times m f top (low_of (drop k xs) i))
  step p xs k d top v i lk lp e =
      let x = get_or xs k d in
      subst (λ T. v ≡ T top x.coefficient → bit_xor (get_or (set p x.power (bit_xor (get_or p x.power 0) v)) i 0) (T top (low_of (drop (k + 1) xs) i)) ≡ bit_xor (get_or p i 0) (T top (low_of (drop k xs) i)))
      (one-product K m f field)
      (λ e'. ap (λ ys. bit_xor (get_or (set p x.power (bit_xor (get_or p x.power 0) v)) i 0) (K.mul top (low_of ys i))) (ap (λ j. drop j xs) (add-one k))
      ∙ term-added K top p x (drop (suc k) xs) v i lp e'
      ∙ ap (λ ys. bit_xor (get_or p i 0) (K.mul top (low_of ys i))) (sym (drop-cons xs k d lk)))
      e

  -- past the last term y times a polynomial is made
  pub made : (t : ℕ) (p old start : List ℕ) (xs : List Term) (k i : ℕ) → length xs ≤ k
      → bit_xor (get_or p i 0) (times m f (get_or old (t - 1) 0) (low_of (drop k xs) i)) ≡ bit_xor (get_or start i 0) (times m f (get_or old (t - 1) 0) (low_of xs i))
      → get_or start i 0 ≡ raised (λ j. get_or old j 0) i
      → get_or p i 0 ≡ times_y (times m f) t (low_of xs) (λ j. get_or old j 0) i
  unfolding times_y
  made t p old start xs k i le inv r =
      let top = get_or old (t - 1) 0 in
      sym (subst (λ T. bit_xor (get_or p i 0) (T top (low_of [] i)) ≡ get_or p i 0) (one-product K m f field) (terms-added K top (get_or p i 0) i))
      ∙ ap (λ ys. bit_xor (get_or p i 0) (times m f top (low_of ys i))) (sym (drop_all k xs le))
      ∙ inv ∙ ap (λ y. bit_xor y (times m f top (low_of xs i))) r

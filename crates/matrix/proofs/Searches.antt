-- Laws of searches. Assumes nothing.
use Rattle.std.proofs.Common.{◌≡◌, ℕ, zero, suc, ◌<◌, ◌≤◌, Bool, true, false, cond, ltb, Some, None, ◌⊎◌, sym, refl, ap, ◌∙◌, ap₂, inl, inr, arith}
use Rattle.std.proofs.lemmas.Bool.{cond-true, cond-false, lt-ltb, le-ltb}
use Rattle.matrix.specs.Search.{least, found}

-- a number that passes, where none below it does, is the first
pub least-is : (n r : ℕ) (p : ℕ → Bool) → r < n → ((k : ℕ) → k < r → p k ≡ false) → p r ≡ true → r ≡ least n p
unfolding least
least-is zero r p h b f = absurd (omega arith)
least-is (suc n) zero p h b f = sym (cond-true (p 0) _ _ f)
least-is (suc n) (suc r) p h b f =
    ap suc (least-is n r (λ k. p (suc k)) (omega arith) (λ k l. b (suc k) (omega arith)) f) ∙ sym (cond-false (p 0) _ _ (b 0 (omega arith)))

pub least-none : (n : ℕ) (p : ℕ → Bool) → ((k : ℕ) → k < n → p k ≡ false) → n ≡ least n p
unfolding least
least-none zero p b = refl
least-none (suc n) p b = ap suc (least-none n (λ k. p (suc k)) (λ k l. b (suc k) (omega arith))) ∙ sym (cond-false (p 0) _ _ (b 0 (omega arith)))

pub least-end : (n j : ℕ) (p : ℕ → Bool) → n ≤ j → ((k : ℕ) → k < j → p k ≡ false) → n ≡ least n p
least-end n j p h b = least-none n p (λ k l. b k (omega arith))

pub least-cong : (n : ℕ) (p q : ℕ → Bool) → ((k : ℕ) → k < n → p k ≡ q k) → least n p ≡ least n q
unfolding least
least-cong zero p q h = refl
least-cong (suc n) p q h = ap₂ (λ b r. cond b 0 (suc r)) (h 0 (omega arith)) (least-cong n (λ k. p (suc k)) (λ k. q (suc k)) (λ k l. h (suc k) (omega arith)))

true-or-false : (b : Bool) → (b ≡ true) ⊎ (b ≡ false)
true-or-false true = inl refl
true-or-false false = inr refl

at_suc : (n : ℕ) (p : ℕ → Bool) (k : ℕ) → k < suc n → p 0 ≡ false → ((k : ℕ) → k < n → p (suc k) ≡ false) → p k ≡ false
at_suc n p zero l e r = e
at_suc n p (suc k) l e r = r k (omega arith)

-- where the search found nothing, no number passes
pub none_passes : (n : ℕ) (p : ℕ → Bool) → n ≤ least n p → (k : ℕ) → k < n → p k ≡ false
unfolding least
none_passes zero p h k l = absurd (omega arith)
none_passes (suc n) p h k l = elim (true-or-false (p 0)) [
  | inl e ↦ let q : cond (p 0) 0 (suc (least n (λ k. p (suc k)))) ≡ 0 = cond-true (p 0) _ _ e in absurd (omega arith)
  | inr e ↦
      let q : cond (p 0) 0 (suc (least n (λ k. p (suc k)))) ≡ suc (least n (λ k. p (suc k))) = cond-false (p 0) _ _ e in
      at_suc n p k l e (none_passes n (λ k. p (suc k)) (omega arith))
]

-- and where it found one, that one passes
pub least-passes : (n : ℕ) (p : ℕ → Bool) → least n p < n → p (least n p) ≡ true
unfolding least
least-passes zero p h = absurd (omega arith)
least-passes (suc n) p h = elim (true-or-false (p 0)) [
  | inl e ↦ ap p (cond-true (p 0) 0 (suc (least n (λ k. p (suc k)))) e) ∙ e
  | inr e ↦
      let q : cond (p 0) 0 (suc (least n (λ k. p (suc k)))) ≡ suc (least n (λ k. p (suc k))) = cond-false (p 0) _ _ e in
      ap p q ∙ least-passes n (λ k. p (suc k)) (omega arith)
]

-- the same of a search that may find none
pub found-is : (n r : ℕ) (p : ℕ → Bool) → r < n → ((k : ℕ) → k < r → p k ≡ false) → p r ≡ true → Some r ≡ found n p
found-is n r p h b f =
    let e : r ≡ least n p = least-is n r p h b f in
    ap Some e ∙ sym (cond-true (ltb (least n p) n) _ _ (lt-ltb (least n p) n (omega arith)))

pub found-none : (n : ℕ) (p : ℕ → Bool) → ((k : ℕ) → k < n → p k ≡ false) → None ≡ found n p
found-none n p b =
    let e : n ≡ least n p = least-none n p b in
    sym (cond-false (ltb (least n p) n) _ _ (le-ltb (least n p) n (omega arith)))

pub found-cong : (n : ℕ) (p q : ℕ → Bool) → ((k : ℕ) → k < n → p k ≡ q k) → found n p ≡ found n q
found-cong n p q h = ap (λ l. cond (ltb l n) (Some l) None) (least-cong n p q h)

-- A search over the first n numbers. Assumes nothing.
use Rattle.std.proofs.Common.{◌≡◌, ℕ, ◌<◌, ◌≤◌, Bool, true, false, Option, Some, None, MatchOption, sym, ◌∙◌, inl, inr, arith}
use Rattle.std.proofs.lemmas.Bool.{cond-true, cases_lt, lt-ltb}
use Rattle.matrix.specs.Search.{least, found}
use Rattle.matrix.proofs.Searches.{none_passes, found-is, found-none}

-- where none is found, none passes
pub not-found : (n : ℕ) (p : ℕ → Bool) → found n p ≡ None → (k : ℕ) → k < n → p k ≡ false
not-found n p h = elim (cases_lt (least n p) n) [
  | inl l ↦ let e : ◌≡◌ {A = Option ℕ} (Some (least n p)) None = sym (cond-true _ _ _ (lt-ltb (least n p) n l)) ∙ h in absurd (cc)
  | inr l ↦ none_passes n p l
]

-- the answer of `find` over the numbers below n
pub found-by : (n : ℕ) (p : ℕ → Bool) (r : Option ℕ)
    → MatchOption r ((k : ℕ) → 0 ≤ k → k < n → p k ≡ false) (λ i. (0 ≤ i) × (i < n) × (p i ≡ true) × ((k : ℕ) → 0 ≤ k → k < i → p k ≡ false))
    → r ≡ found n p
found-by n p None h = found-none n p (λ k l. h k (omega arith) l)
found-by n p (Some i) h = found-is n i p h.1 (λ k l. h.3 k (omega arith) l) h.2

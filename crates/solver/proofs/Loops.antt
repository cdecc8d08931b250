-- What the loop that makes the identity keeps. Assumes nothing.
use Rattle.std.proofs.Common.{◌≡◌, ℕ, ◌+◌, ◌<◌, ◌≤◌, sym, ◌∙◌, ap₂, inl, inr, arith}
use Rattle.std.proofs.lemmas.Bool.{cases_eq}
use Rattle.matrix.specs.Matrix.{Mat, delta}
use Rattle.matrix.proofs.Sums.{delta-on, delta-off}

-- the identity in the rows below k, and zero from there on
pub record UnitBelow (n : ℕ) (X : Mat) (k : ℕ) : Type 0 where
  pub done : (a j : ℕ) → a < n → j < n → a < k → X a j ≡ delta a j
  pub rest : (a j : ℕ) → a < n → j < n → k ≤ a → X a j ≡ 0

pub unit-more : (n : ℕ) (X X' : Mat) (k v : ℕ) → k < n → v ≡ 1 → X' k k ≡ v → ((a b : ℕ) → a < n → b < n → (a ≡ k → b ≡ k → ⊥) → X' a b ≡ X a b) → UnitBelow n X k → UnitBelow n X' (k + 1)
unit-more n X X' k v hk e w o u = record {
  done = λ a j ha hj h. elim (cases_eq a k) [
    | inl d ↦ elim (cases_eq j k) [
      | inl d' ↦ ap₂ X' d d' ∙ w ∙ e ∙ sym (delta-on a j (d ∙ sym d'))
      | inr d' ↦ o a j ha hj (λ _ f. d' f) ∙ u.rest a j ha hj (omega arith) ∙ sym (delta-off a j (λ f. d' (sym f ∙ d)))
    ]
    | inr d ↦ o a j ha hj (λ f _. d f) ∙ u.done a j ha hj (omega arith)
  ];
  rest = λ a j ha hj h. o a j ha hj (λ f _. omega arith) ∙ u.rest a j ha hj (omega arith);
}

-- What is solved of a matrix is solved of an equal one. Assumes nothing.
use Rattle.std.proofs.Common.{ℕ, sym, ap, ◌∙◌}
use Rattle.galois.specs.Arith.{Arith}
use Rattle.matrix.specs.Matrix.{Mat, Same, times, delta, Dependent}
use Rattle.matrix.proofs.Sums.{sum-cong, times-left, times-right}
use Rattle.solver.specs.Answers.{Solves}
use Rattle.solver.specs.declared.Solved.{Solved}
use Rattle.solver.specs.declared.Solved.TheVariants.{Inverse, Dependent as Vanishes}

module _ (F : Arith) (n : ℕ) (M B : Mat) (e : Same n M B) where
  -- a product by one is a product by the other
  from-left : (X : Mat) → Same n (times F n X M) delta → Same n (times F n X B) delta
  from-left X h i j hi hj = times-right F n X B M i j (λ k hk. sym (e k j hk hj)) ∙ h i j hi hj

  back-left : (X : Mat) → Same n (times F n X B) delta → Same n (times F n X M) delta
  back-left X h i j hi hj = times-right F n X M B i j (λ k hk. e k j hk hj) ∙ h i j hi hj

  from-right : (X : Mat) → Same n (times F n M X) delta → Same n (times F n B X) delta
  from-right X h i j hi hj = times-left F n B M X i j (λ k hk. sym (e i k hi hk)) ∙ h i j hi hj

  back-right : (X : Mat) → Same n (times F n B X) delta → Same n (times F n M X) delta
  back-right X h i j hi hj = times-left F n M B X i j (λ k hk. e i k hi hk) ∙ h i j hi hj

  dependent-same : (v : ℕ → ℕ) → Dependent F n M v → Dependent F n B v
  dependent-same v h = record {
    at = h.at;
    at_lt = h.at_lt;
    nonzero = h.nonzero;
    vanish = λ j hj. sum-cong n _ _ (λ k hk. ap (F.mul (v k)) (sym (e k j hk hj))) ∙ h.vanish j hj;
  }

  pub solves-same : (Y : Mat) (s : Solved) → Solves F n M Y s → Solves F n B Y s
  solves-same Y Inverse h = record {
    left = from-left Y h.left;
    right = from-right Y h.right;
    only_left = λ X els p. h.only_left X els (back-left X p);
    only_right = λ X els p. h.only_right X els (back-right X p);
  }
  solves-same Y (Vanishes r) h = record {
    row = h.row;
    combination = dependent-same (Y r) h.combination;
    singular = record {
      no_left = λ X els p. h.singular.no_left X els (back-left X p);
      no_right = λ X els p. h.singular.no_right X els (back-right X p);
    };
  }

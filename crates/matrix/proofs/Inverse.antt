-- A square matrix has a left inverse or a vanishing combination of its rows; a left inverse is a right inverse, and the only one. Assumes nothing.
use Rattle.std.proofs.Common.{◌≡◌, ℕ, zero, suc, ◌+◌, ◌-◌, ◌^◌, ◌<◌, ◌⊎◌, sym, refl, ap, ◌∙◌, subst, inl, inr, arith}
use Rattle.std.proofs.lemmas.Bool.{cases_eq, cases_lt}
use Rattle.galois.specs.Arith.{Arith}
use Rattle.matrix.specs.Matrix.{Mat, delta, times, Same, Els, Dependent}
use Rattle.matrix.proofs.Sums.{sum-cong, delta-on, delta-off, sum-zero, zero-mul, times-assoc, times-left, times-right, delta-times, times-delta}
use Rattle.matrix.proofs.Rows.{delta-lt}
use Rattle.matrix.specs.Steps.{State}
use Rattle.matrix.proofs.Elim.{start, column, inverse-at-end, dependent-at-end}

abbrev pub flip : Mat → Mat
flip A i j = A j i

delta-flip : (i j : ℕ) → delta i j ≡ delta j i
delta-flip i j = elim (cases_eq i j) [
  | inl e ↦ delta-on i j e ∙ sym (delta-on j i (sym e))
  | inr ne ↦ delta-off i j ne ∙ sym (delta-off j i (λ e. ne (sym e)))
]

module _ (F : Arith) (n : ℕ) where
  abbrev Decided : Mat → Type 0
  Decided M = ((Y : Mat) × (Els F Y) × (Same n (times F n Y M) delta)) ⊎ ((v : ℕ → ℕ) × ((k : ℕ) → v k < 2 ^ F.width) × (Dependent F n M v))

  columns : (M : Mat) (d c r : ℕ) (X Y : Mat) → c + d ≡ n → Els F X → Els F Y → State F n M X Y c r → Decided M
  columns M zero c r X Y e hx hy s =
      let s' = subst (λ k. State F n M X Y k r) (let q : c ≡ n = omega arith in q) s in
      elim (cases_lt r n) [
        | inl h ↦ inr (Y r, hy r, dependent-at-end F n M X Y r s' h)
        | inr h ↦ inl (Y, hy, inverse-at-end F n M X Y r s' h)
      ]
  columns M (suc d) c r X Y e hx hy s =
      let l = s.low in
      let t = column F n M X Y c r (n - r) (omega arith) (omega arith) hx hy s in
      columns M d (c + 1) t.2 t.0 t.1 (omega arith) t.3 t.4 t.5

  pub decided : (M : Mat) → Els F M → Decided M
  decided M h = columns M n 0 0 M delta (omega arith) h (delta-lt F n) (start F n M M delta h (λ i j hi hj. refl) (λ i j hi hj. refl))

  -- two inverses, one on each side, are one
  pub inverses-agree : (A B C : Mat) → Els F A → Els F C → Same n (times F n A B) delta → Same n (times F n B C) delta → Same n A C
  inverses-agree A B C ha hc ab bc i j hi hj =
      sym (times-delta F n A i j hj (ha i j))
      ∙ times-right F n A delta (times F n B C) i j (λ k hk. sym (bc k j hk hj))
      ∙ sym (times-assoc F n A B C i j)
      ∙ times-left F n (times F n A B) delta C i j (λ k hk. ab i k hi hk)
      ∙ delta-times F n C i j hi (hc i j)

  -- a matrix with a right inverse has no vanishing combination of its rows
  pub no-dependence : (A B : Mat) (v : ℕ → ℕ) → ((k : ℕ) → v k < 2 ^ F.width) → Same n (times F n A B) delta → Dependent F n A v → ⊥
  unfolding times
  no-dependence A B v hv ab d =
      let V : Mat = λ _. v in
      let q = d.at in
      d.nonzero (
      sym (times-delta F n V 0 q d.at_lt (hv q))
      ∙ times-right F n V delta (times F n A B) 0 q (λ k hk. sym (ab k q hk d.at_lt))
      ∙ sym (times-assoc F n V A B 0 q)
      ∙ sum-zero n _ (λ k hk. ap (λ x. F.mul x (B k q)) (d.vanish k hk) ∙ zero-mul F (B k q)))

  pub left-is-right : (S H : Mat) → Els F S → Els F H → Same n (times F n S H) delta → Same n (times F n H S) delta
  left-is-right S H hs hh e =
      elim (decided S hs) [
        | inl t ↦ λ i j hi hj. times-left F n H t.0 S i j (λ k hk. sym (inverses-agree t.0 S H t.1 hh t.2 e i k hi hk)) ∙ t.2 i j hi hj
        | inr t ↦ absurd (no-dependence S H t.0 t.1 e t.2)
      ]

  pub flip-times : (A B : Mat) (i j : ℕ) → times F n A B i j ≡ times F n (flip B) (flip A) j i
  unfolding times
  flip-times A B i j = sum-cong n _ _ (λ k hk. F.mul_comm (A i k) (B k j))

  -- where rows are dependent, so are columns
  pub columns-dependent : (M : Mat) (v : ℕ → ℕ) → Els F M → ((k : ℕ) → v k < 2 ^ F.width) → Dependent F n M v → (w : ℕ → ℕ) × ((k : ℕ) → w k < 2 ^ F.width) × (Dependent F n (flip M) w)
  columns-dependent M v hm hv d =
      elim (decided (flip M) (λ i j. hm j i)) [
        | inl t ↦ absurd (no-dependence M (flip t.0) v hv (λ i j hi hj. sym (flip-times t.0 (flip M) j i) ∙ t.2 j i hj hi ∙ delta-flip j i) d)
        | inr t ↦ t
      ]

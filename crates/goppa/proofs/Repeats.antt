-- A map of what was seen tells whether an entry is repeated. Assumes nothing.
use Rattle.std.proofs.Common.{◌≡◌, ℕ, zero, suc, ◌+◌, ◌<◌, Bool, true, false, cond, ◌||◌, eqb, sym, refl, ap, ◌∙◌, ap₂, inl, inr, add-one, arith}
use lib.Bits.{bit_xor, xor_zero_r}
use Rattle.std.proofs.lemmas.Bool.{cases_eq, eq-eqb, ne_eqb}
use Rattle.std.proofs.Math.Bool.{or-true, or-false}
use Rattle.matrix.specs.Matrix.{delta}
use Rattle.matrix.proofs.Sums.{delta-on, delta-off}
use Rattle.goppa.specs.Loading.{any, repeated}

-- what passes below n, passes
pub some-true : (n k : ℕ) (p : ℕ → Bool) → k < n → p k ≡ true → any n p ≡ true
unfolding any
some-true zero k p l e = absurd (omega arith)
some-true (suc n) k p l e = elim (cases_eq k n) [
  | inl q ↦ ap (λ b. any n p || b) (sym (ap p q) ∙ e) ∙ or-true (any n p)
  | inr ne ↦ ap (λ b. b || p n) (some-true n k p (omega arith) e)
]

some_more : (j : ℕ) (p : ℕ → Bool) → any (j + 1) p ≡ (any j p || p j)
unfolding any
some_more j p = ap (λ n. any n p) (add-one j)

flag : (b : Bool) → eqb (cond b 1 0) 1 ≡ b
flag true = refl
flag false = refl

-- S marks the values among the first j of a
abbrev pub Seen : (ℕ → ℕ) → ℕ → (ℕ → ℕ) → Type 0
Seen a j S = (v : ℕ) → S v ≡ cond (any j (λ i. eqb (a i) v)) 1 0

pub seen_none : (a S : ℕ → ℕ) → ((v : ℕ) → S v ≡ 0) → Seen a 0 S
unfolding any
seen_none a S h v = h v

pub seen-tells : (a : ℕ → ℕ) (j x : ℕ) (S : ℕ → ℕ) (b : Bool) → Seen a j S → x ≡ a j → b ≡ eqb (S x) 1 → repeated a j ≡ b
seen-tells a j x S b h q r = sym (r ∙ ap (λ s. eqb s 1) (h x) ∙ flag _ ∙ ap (λ y. any j (λ i. eqb (a i) y)) q)

pub seen_more : (a : ℕ → ℕ) (j x : ℕ) (S S' : ℕ → ℕ) → Seen a j S → x ≡ a j → repeated a j ≡ false → ((v : ℕ) → S' v ≡ bit_xor (S v) (delta x v)) → Seen a (j + 1) S'
seen_more a j x S S' h q r g v =
    let before = any j (λ i. eqb (a i) v) in
    elim (cases_eq x v) [
      | inl same ↦
          let y : a j ≡ v = sym q ∙ same in
          g v
          ∙ ap₂ bit_xor (h v ∙ ap (λ b. cond b 1 0) (ap (λ z. any j (λ i. eqb (a i) z)) (sym y) ∙ r)) (delta-on x v same)
          ∙ sym (ap (λ b. cond b 1 0) (some_more j (λ i. eqb (a i) v) ∙ ap (λ b. before || b) (eq-eqb (a j) v y) ∙ or-true before))
      | inr ne ↦
          g v ∙ ap₂ bit_xor (h v) (delta-off x v ne) ∙ xor_zero_r _
          ∙ sym (ap (λ b. cond b 1 0) (some_more j (λ i. eqb (a i) v) ∙ ap (λ b. before || b) (ne_eqb (a j) v (λ w. ne (q ∙ w))) ∙ or-false before))
    ]

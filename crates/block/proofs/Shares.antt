-- The elements x^i / g(x) of a column, from 1 / g(x) on. Assumes nothing.
use Rattle.std.proofs.Common.{◌≡◌, ℕ, zero, suc, ◌/◌, ◌^◌, ◌<◌, true, ◌&&◌, eqb, sym, refl, ap, ◌∙◌, subst, ap₂, inl, inr, mod-eq_of_lt, arith}
use Rattle.std.proofs.lemmas.Bool.{or_cases, and_parts, eqb-true}
use Rattle.galois.specs.Gf.{times, inverse_of}
use Rattle.galois.proofs.Ring.{times-comm, times-assoc, times-one}
use Rattle.galois.proofs.Shown.{inverse-of-lt}
use Rattle.params.specs.Known.{known}
use Rattle.goppa.specs.Checks.{power, value, ratio}
use Rattle.block.specs.Lanes.{scaled}

abbrev Degree : ℕ → ℕ → Type 0
Degree m f = (0 < m) × (f / 2 ^ m ≡ 1)

at : (a b m f : ℕ) → Degree a b → (eqb m a && eqb f b) ≡ true → Degree m f
at a b m f d h =
    let p = and_parts (eqb m a) (eqb f b) h in
    let em = eqb-true m a p.0 in
    let ef = eqb-true f b p.1 in
    (subst (λ x. 0 < x) (sym em) d.0, ap₂ (λ x y. y / 2 ^ x) em ef ∙ d.1)

-- the reducing polynomials have their degree
pub known-degree : (m f : ℕ) → known m f ≡ true → (0 < m) × (f / 2 ^ m ≡ 1)
known-degree m f h = elim (or_cases _ _ h) [
  | inl a ↦ at 4 19 m f (omega arith, refl) a
  | inr h ↦ elim (or_cases _ _ h) [
    | inl a ↦ at 5 37 m f (omega arith, refl) a
    | inr h ↦ elim (or_cases _ _ h) [
      | inl a ↦ at 12 4105 m f (omega arith, refl) a
      | inr a ↦ at 13 8219 m f (omega arith, refl) a
    ]
  ]
]

scaled-times : (m f x y i : ℕ) → 0 < m → f / 2 ^ m ≡ 1 → y < 2 ^ m → scaled m f x y i ≡ times m f (power m f x i) y
unfolding scaled power
scaled-times m f x y zero pos top h = sym (times-comm m f top 1 y ∙ times-one m f top pos y ∙ mod-eq_of_lt h)
scaled-times m f x y (suc i) pos top h = ap (times m f x) (scaled-times m f x y i pos top h) ∙ sym (times-assoc m f top x (power m f x i) y)

pub scaled-share : (m f t : ℕ) (g : ℕ → ℕ) (x y i : ℕ) → known m f ≡ true → y ≡ inverse_of m f (value m f t g x) → scaled m f x y i ≡ ratio m f t g x i
unfolding ratio
scaled-share m f t g x y i k e =
    let d = known-degree m f k in
    ap (λ z. scaled m f x z i) e
    ∙ scaled-times m f x (inverse_of m f (value m f t g x)) i d.0 d.1 (inverse-of-lt m f d.0 d.1 (value m f t g x))

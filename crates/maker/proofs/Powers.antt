-- Powers of a polynomial modulo F(y), and the rows of a table that hold them. Assumes nothing.
use Rattle.std.proofs.Common.{◌≡◌, ℕ, ◌+◌, ◌*◌, ◌^◌, ◌<◌, List, length, get_or, set, sym, refl, ap, ◌∙◌, subst, inl, inr, arith}
use Rattle.std.proofs.lemmas.Bool.{cases_eq}
use Rattle.std.proofs.lemmas.List.{get_or-set_same, get_or-set_other}
use Rattle.galois.specs.Arith.{Arith}
use Rattle.galois.specs.Gf.{times}
use Rattle.matrix.specs.Matrix.{Mat, Elements}
use Rattle.matrix.proofs.Sums.{delta-on, delta-off}
use Rattle.quotient.specs.Quotient.{product, power, Alike}
use Rattle.quotient.proofs.Ring.{product-alike}
use Rattle.quotient.proofs.Roots.{power-element, power-more}
use Rattle.solver.specs.Cells.{entry, entries}
use Rattle.solver.proofs.Rows.{with_row, written-on, written-off}
use Rattle.maker.proofs.Field.{IsField, one-product}

-- 1, in a memory of zeros
pub one-written : (T : ℕ → ℕ → ℕ) (t : ℕ) (low b : ℕ → ℕ) (zeros : List ℕ) → 0 < t → length zeros ≡ t → ((i : ℕ) → i < t → get_or zeros i 0 ≡ 0) → Alike t (λ i. get_or (set zeros 0 1) i 0) (power T t low b 0)
unfolding power
one-written T t low b zeros some e h i l = elim (cases_eq i 0) [
  | inl q ↦ ap (λ j. get_or (set zeros 0 1) j 0) q ∙ get_or-set_same zeros 0 1 0 (omega arith) ∙ sym (delta-on 0 i (sym q))
  | inr ne ↦ get_or-set_other zeros 0 i 1 0 ne ∙ h i l ∙ sym (delta-off 0 i (λ q. ne (sym q)))
]

module _ (K : Arith) (m f : ℕ) (field : IsField K m f) (t : ℕ) (low b : ℕ → ℕ) where
  powers-elements : (n i : ℕ) → power (times m f) t low b n i < 2 ^ m
  powers-elements =
      subst (λ w. (n i : ℕ) → power (times m f) t low b n i < 2 ^ w) field.wide
      (subst (λ T. (n i : ℕ) → power T t low b n i < 2 ^ K.width) (one-product K m f field) (power-element K t low b))

  -- a power has elements
  pub elements : (p : ℕ → ℕ) (n : ℕ) → Alike t p (power (times m f) t low b n) → Elements m t p
  elements p n h i l = subst (λ v. v < 2 ^ m) (sym (h i l)) (powers-elements n i)

  cares : (p q : ℕ → ℕ) → Alike t p q → (i : ℕ) → product (times m f) t low b p i ≡ product (times m f) t low b q i
  cares =
      subst (λ T. (p q : ℕ → ℕ) → Alike t p q → (i : ℕ) → product T t low b p i ≡ product T t low b q i) (one-product K m f field)
      (λ p q h i. product-alike K t low b b p q (λ _ _. refl) h i)

  more : (n i : ℕ) → power (times m f) t low b (n + 1) i ≡ product (times m f) t low b (power (times m f) t low b n) i
  more = subst (λ T. (n i : ℕ) → power T t low b (n + 1) i ≡ product T t low b (power T t low b n) i) (one-product K m f field) (power-more K t low b)

  -- b times a power is the next one
  pub next : (p q : ℕ → ℕ) (n : ℕ) → Alike t p (power (times m f) t low b n) → Alike t q (product (times m f) t low b p) → Alike t q (power (times m f) t low b (n + 1))
  next p q n h e i l = e i l ∙ cares p (power (times m f) t low b n) h i ∙ sym (more n i)

-- the first rows of a table are those of N
abbrev pub FirstRows : {X : Type 0} → ℕ → (X → ℕ) → ℕ → List X → Mat → ℕ → Type 0
FirstRows w number t xs N j = (a q : ℕ) → a < j → q < t → entries w number t xs a q ≡ N a q

module _ {X : Type 0} (w : ℕ) (number : X → ℕ) (t : ℕ) (N : Mat) where
  -- with one row more written
  pub row-more : (xs ys : List X) (j : ℕ) → j < t → length xs ≡ t * t → length ys ≡ t
      → ((q : ℕ) → q < t → entry w number ys q ≡ N j q) → FirstRows w number t xs N j → FirstRows w number t (with_row t j xs ys) N (j + 1)
  row-more xs ys j lj lx ly on rows a q la lq =
      elim (cases_eq a j) [
        | inl d ↦ subst (λ r. entries w number t (with_row t j xs ys) r q ≡ N r q) (sym d) (written-on w number t xs ys j lj lx ly q lq ∙ on q lq)
        | inr ne ↦ written-off w number t xs ys j lj lx ly a q ne (omega arith) lq ∙ rows a q (omega arith) lq
      ]

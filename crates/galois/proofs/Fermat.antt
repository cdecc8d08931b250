-- A nonzero element times its inverse is 1, from two computed checks of f.
use mathlib.Core.Path.{◌≡◌, refl, sym, ap, ap₂, ◌∙◌, subst}
use mathlib.Core.Bool.{Bool, true, false, ◌&&◌, ◌||◌, not}
use Prim.Native.Nat.{ℕ, zero, suc, ◌-◌, ◌/◌, ◌^◌, ◌<◌}
use native.Mathlib.Nat.{mod-eq_of_lt}
use native.Mathlib.Decide.{ℕ_discrete}
use native.Mathlib.Omega.{arith}
use lib.Dec.{T, eqb, ltb, eqb→eq, eqb_refl, ltb→lt}
use lib.Bits.{bit_xor, xor_assoc, xor_self}
use Rattle.galois.specs.Gf.{times, chain, inverse}
use Rattle.galois.proofs.Linear.{Linear, basis}
use Rattle.galois.proofs.Ring.{times-lt, times-comm, times-assoc, times-one, times-linear, times_zero}

-- the test g holds of each number below n
abbrev pub all_below : (ℕ → Bool) → ℕ → Bool
all_below g zero = true
all_below g (suc n) = g n && all_below g n

and_left : (a b : Bool) → T (a && b) → T a
and_left true b t = tt
and_left false b t = t

and_right : (a b : Bool) → T (a && b) → T b
and_right true b t = t
and_right false b t = absurd t

pub below_all : (g : ℕ → Bool) (n : ℕ) → T (all_below g n) → (i : ℕ) → i < n → T (g i)
below_all g zero t i h = absurd (omega arith)
below_all g (suc n) t i h =
    elim (ℕ_discrete i n) [
      | yes e ↦ subst (λ (k : ℕ). T (g k)) (sym e) (and_left (g n) (all_below g n) t)
      | no l ↦ below_all g n (and_right (g n) (all_below g n) t) i (omega arith)
    ]

abbrev pub square : (m f a : ℕ) → ℕ
square m f a = times m f a a

-- n squarings
unfoldable pub frobenius : (m f n a : ℕ) → ℕ
frobenius m f zero a = a
frobenius m f (suc n) a = square m f (frobenius m f n a)

-- m squarings leave z^i as it is
abbrev pub fixes : (m f : ℕ) → Bool
fixes m f = all_below (λ i. eqb (frobenius m f m (2 ^ i)) (2 ^ i)) m

-- no number below 2^m but 0 and 1 is its own square
abbrev pub only_bits : (m f : ℕ) → Bool
only_bits m f = all_below (λ x. not (eqb (square m f x) x) || ltb x 2) (2 ^ m)

or_right : (a b : Bool) → T a → T (not a || b) → T b
or_right true b t h = h
or_right false b t h = absurd t

module _ (m f : ℕ) (top : f / 2 ^ m ≡ 1) (pos : 0 < m) where
  pub square-linear : Linear (square m f)
  square-linear a b =
      let ab = times m f a b in
      let left : (x y w : ℕ) → times m f w (bit_xor x y) ≡ bit_xor (times m f w x) (times m f w y)
      = λ x y w. times-comm m f top w (bit_xor x y) ∙ times-linear m f top w x y ∙ ap₂ bit_xor (times-comm m f top x w) (times-comm m f top y w) in
      times-linear m f top (bit_xor a b) a b ∙ ap₂ bit_xor (left a b a) (left a b b)
      ∙ ap (λ (v : ℕ). bit_xor (bit_xor (times m f a a) ab) (bit_xor v (times m f b b))) (times-comm m f top b a)
      ∙ xor_assoc (times m f a a) ab (bit_xor ab (times m f b b))
      ∙ ap (bit_xor (times m f a a)) (sym (xor_assoc ab ab (times m f b b)) ∙ ap (λ (v : ℕ). bit_xor v (times m f b b)) (xor_self ab))

  pub frobenius-linear : (n : ℕ) → Linear (frobenius m f n)
  unfolding frobenius
  frobenius-linear zero a b = refl
  frobenius-linear (suc n) a b =
      ap (square m f) (frobenius-linear n a b) ∙ square-linear (frobenius m f n a) (frobenius m f n b)

  -- the product of squares
  pub square-times : (a b : ℕ) → square m f (times m f a b) ≡ times m f (square m f a) (square m f b)
  square-times a b =
      let t = times m f in
      times-assoc m f top a b (t a b)
      ∙ ap (t a) (times-comm m f top b (t a b) ∙ times-assoc m f top a b b)
      ∙ sym (times-assoc m f top a a (t b b))

  pub frobenius-fixes : T (fixes m f) → (a : ℕ) → a < 2 ^ m → frobenius m f m a ≡ a
  frobenius-fixes t =
      basis (frobenius m f m) (λ a. a) (frobenius-linear m) (λ a b. refl) m
      (λ i h. eqb→eq (frobenius m f m (2 ^ i)) (2 ^ i) (below_all (λ i. eqb (frobenius m f m (2 ^ i)) (2 ^ i)) m t i h))

  -- a times a^(2^n - 1) is a^(2^n)
  pub chain_more : (n a : ℕ) → a < 2 ^ m → times m f a (chain m f n a) ≡ frobenius m f n a
  unfolding chain frobenius
  chain_more zero a h = times-one m f top pos a ∙ mod-eq_of_lt h
  chain_more (suc n) a h =
      sym (times-assoc m f top a a (times m f (chain m f n a) (chain m f n a))) ∙ sym (square-times a (chain m f n a)) ∙ ap (square m f) (chain_more n a h)

  -- x * x = x only for 0 and 1
  pub idempotent : T (only_bits m f) → (x : ℕ) → x < 2 ^ m → times m f x x ≡ x → x < 2
  idempotent t x h e =
      ltb→lt x 2 (or_right (eqb (square m f x) x) (ltb x 2) (subst (λ (v : ℕ). T (eqb (square m f x) v)) e (eqb_refl (square m f x)))
      (below_all (λ x. not (eqb (square m f x) x) || ltb x 2) (2 ^ m) t x h))

  pub nonzero-inverse : T (fixes m f) → T (only_bits m f) → (a : ℕ) → a < 2 ^ m → (a ≡ 0 → ⊥) → times m f a (inverse m f a) ≡ 1
  unfolding chain inverse
  nonzero-inverse t1 t2 a h ne =
      let t = times m f in
      let w = inverse m f a in
      let e = t a w in
      let q : m ≡ suc (m - 1) = omega arith in
      let is : chain m f m a ≡ e = ap (λ (n : ℕ). chain m f n a) q in
      let ae : t a e ≡ a = ap (t a) (sym is) ∙ chain_more m a h ∙ frobenius-fixes t1 a h in
      let idem : t e e ≡ e
      = times-assoc m f top a w e ∙ ap (t a) (times-comm m f top w e) ∙ sym (times-assoc m f top a e w) ∙ ap (λ (v : ℕ). t v w) ae in
      let small : e < 2 = idempotent t2 e (times-lt m f top a w) idem in
      let some : e ≡ 0 → ⊥ = λ z. ne (sym ae ∙ ap (t a) z ∙ times-comm m f top a 0 ∙ times_zero m f top a) in
      omega arith

  pub inverse-lt : (a : ℕ) → inverse m f a < 2 ^ m
  unfolding inverse
  inverse-lt a = times-lt m f top _ _

-- Words that pass a check matrix, the systematic form, and blinded blocks. Assumes nothing.
use Rattle.std.specs.Prelude.{◌≡◌, ℕ, ◌+◌, ◌-◌, ◌^◌, ◌<◌, cond, ◌⊎◌, nat_lt}
use Rattle.galois.specs.Arith.{Arith}
use Rattle.matrix.specs.Matrix.{Mat, sum, delta, times, Same, Elements, Els, Dependent, apply, apply_row}

-- the word w, of n elements, passes M, of r rows
abbrev pub Passes : Arith → ℕ → ℕ → Mat → (ℕ → ℕ) → Type 0
Passes F r n M w = (i : ℕ) → i < r → apply F n M w i ≡ 0

-- the columns of M from r on
abbrev pub from_column : ℕ → Mat → Mat
from_column r M i j = M i (r + j)

-- the unit matrix of order r, and T to the right of it
unfoldable pub unit_and : ℕ → Mat → Mat
unit_and r T i j = cond (nat_lt j r) (delta i j) (T i (j - r))

-- the matrix (I|T) with r rows and k columns in T: every word passes it exactly when it passes H
pub record Systematic (F : Arith) (r k : ℕ) (H T : Mat) : Type 0 where
  pub elements : (i j : ℕ) → i < r → j < k → T i j < 2 ^ F.width
  pub sound : (w : ℕ → ℕ) → Elements F.width (r + k) w → Passes F r (r + k) (unit_and r T) w → Passes F r (r + k) H w
  pub complete : (w : ℕ → ℕ) → Elements F.width (r + k) w → Passes F r (r + k) H w → Passes F r (r + k) (unit_and r T) w

-- T has P, and every matrix that has P is T in its r rows and k columns
pub record TheOnly (r k : ℕ) (P : Mat → Type 0) (T : Mat) : Type 0 where
  pub has : P T
  pub only : (T' : Mat) → P T' → (i j : ℕ) → i < r → j < k → T' i j ≡ T i j

-- a left inverse of the n by n matrix M
pub record LeftInverse (F : Arith) (n : ℕ) (M S : Mat) : Type 0 where
  pub elements : Els F S
  pub undoes : Same n (times F n S M) delta

-- no matrix undoes M, from the left or from the right
pub record Singular (F : Arith) (n : ℕ) (M : Mat) : Type 0 where
  pub no_left : (X : Mat) → Els F X → Same n (times F n X M) delta → ⊥
  pub no_right : (X : Mat) → Els F X → Same n (times F n M X) delta → ⊥

-- R' blinds the block H' to what R blinds H to
pub record SameBlinded (F : Arith) (n : ℕ) (R H H' R' : Mat) : Type 0 where
  pub elements : (i j : ℕ) → i < n → j < n → R' i j < 2 ^ F.width
  pub alike : Same n (times F n R' H') (times F n R H)

-- inverses of square matrices
pub record Inverses (F : Arith) : Type 0 where
  -- (A B) C = A (B C)
  pub associates : (n : ℕ) (A B C : Mat) (i j : ℕ) → times F n (times F n A B) C i j ≡ times F n A (times F n B C) i j
  -- (v A) w = v (A w)
  pub sides : (n : ℕ) (v : ℕ → ℕ) (A : Mat) (w : ℕ → ℕ) → sum n (λ k. F.mul (apply_row F n A v k) (w k)) ≡ sum n (λ k. F.mul (v k) (apply F n A w k))
  -- a left inverse is a right inverse
  pub two_sided : (n : ℕ) (M S : Mat) → Els F M → LeftInverse F n M S → Same n (times F n M S) delta
  -- there is one at most
  pub unique : (n : ℕ) (M S S' : Mat) → Els F M → LeftInverse F n M S → LeftInverse F n M S' → Same n S S'
  -- there is one, or a nonzero row vector that the matrix sends to zero
  pub decided : (n : ℕ) (M : Mat) → Els F M → ((S : Mat) × LeftInverse F n M S) ⊎ ((v : ℕ → ℕ) × (Elements F.width n v) × (Dependent F n M v))

-- what the split key generation rests on, over any field, for H of r rows and r + k columns, and blindings R
pub record Algebra (F : Arith) : Type 0 where
  -- the public matrix: (I|T) passes what H passes, for this T and no other
  pub systematic : (r k : ℕ) (H S : Mat) → Els F H → LeftInverse F r H S → TheOnly r k (Systematic F r k H) (times F r S (from_column r H))
  -- a vanishing combination of the rows of M rules out any inverse
  pub singular : (n : ℕ) (M : Mat) (v : ℕ → ℕ) → Els F M → Elements F.width n v → Dependent F n M v → Singular F n M
  -- where S undoes R H, S R undoes H
  pub unblinded : (n : ℕ) (R H S : Mat) → LeftInverse F n (times F n R H) S → LeftInverse F n H (times F n S R)
  -- exactly one blinding of H' gives the product that R gives of H
  pub reblinded : (n : ℕ) (H H' S' R : Mat) → Els F H' → LeftInverse F n H' S' → (R' : Mat) × TheOnly n n (SameBlinded F n R H H') R'

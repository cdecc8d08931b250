-- Reads and writes of one cell, at the matrix that the cells hold. Assumes nothing.
use Rattle.std.proofs.Common.{◌≡◌, ℕ, zero, suc, ◌+◌, ◌*◌, ◌/◌, ◌%◌, ◌^◌, ◌<◌, ◌≢◌, List, [], ◌∷◌, map, length, get_or, set, sym, refl, ap, ◌∙◌, subst, inl, inr, mod-eq_of_lt, arith, pow_pos}
use Rattle.std.proofs.lemmas.Bool.{cases_eq}
use Rattle.std.proofs.lemmas.List.{get_or-map, get_or-set_same, get_or-set_other, map-set, set-get_or, length-map, length-set}
use Rattle.std.proofs.lemmas.Nat.{mul-add-lt, div-mul-add, mod-mul-add}
use Rattle.galois.specs.Arith.{Arith}
use Rattle.matrix.specs.Matrix.{Els}
use Rattle.field.proofs.Cells.{low-lt}
use Rattle.solver.specs.Cells.{element, entry, entries, Clean}

same_row : (n a b i j : ℕ) → b < n → j < n → a * n + b ≡ i * n + j → a ≡ i
same_row n a b i j hb hj e = sym (div-mul-add a n b hb) ∙ ap (λ x. x / n) e ∙ div-mul-add i n j hj

same-column : (n a b i j : ℕ) → b < n → j < n → a * n + b ≡ i * n + j → b ≡ j
same-column n a b i j hb hj e = sym (mod-mul-add a n b hb) ∙ ap (λ x. x % n) e ∙ mod-mul-add i n j hj

pub one-low : (F : Arith) (w : ℕ) → F.width ≡ w → 1 % 2 ^ w ≡ 1
one-low F w e = mod-eq_of_lt (subst (λ (v : ℕ). 1 < 2 ^ v) e F.one-lt)

pub low-low : (w x : ℕ) → x % 2 ^ w % 2 ^ w ≡ x % 2 ^ w
low-low w x = mod-eq_of_lt (low-lt w x)

module _ {X : Type 0} (w : ℕ) (number : X → ℕ) where
  -- one cell of a row
  pub entry_read : (xs : List X) (k : ℕ) (d : X) → k < length xs → element w number (get_or xs k d) ≡ entry w number xs k
  unfolding entry
  entry_read xs k d l = sym (get_or-map (element w number) xs k d 0 l)

  pub entry_set : (xs : List X) (k : ℕ) (x : X) → k < length xs → entry w number (set xs k x) k ≡ element w number x
  unfolding entry
  entry_set xs k x l = ap (λ l. get_or l k 0) (map-set (element w number) xs k x) ∙ get_or-set_same (map (element w number) xs) k (element w number x) 0 (rw length-map l)

  pub entry_other : (xs : List X) (k j : ℕ) (x : X) → j ≢ k → entry w number (set xs k x) j ≡ entry w number xs j
  unfolding entry
  entry_other xs k j x ne = ap (λ l. get_or l j 0) (map-set (element w number) xs k x) ∙ get_or-set_other (map (element w number) xs) k j (element w number x) 0 ne

  -- one cell of a table
  module _ (n : ℕ) (xs : List X) (i j : ℕ) (hi : i < n) (hj : j < n) where
    pub entries-read : (x : X) → length xs ≡ n * n → x ≡ get_or xs (i * n + j) x → element w number x ≡ entries w number n xs i j
    unfolding entries entry
    entries-read x size e = ap (element w number) e ∙ entry_read xs (i * n + j) x (omega (arith, mul-add-lt i n j n hi hj))

    pub entries-set : (x : X) → length xs ≡ n * n → entries w number n (set xs (i * n + j) x) i j ≡ element w number x
    unfolding entries entry
    entries-set x size = entry_set xs (i * n + j) x (omega (arith, mul-add-lt i n j n hi hj))

    pub entries-other : (x : X) (a b : ℕ) → b < n → (a ≡ i → b ≡ j → ⊥) → entries w number n (set xs (i * n + j) x) a b ≡ entries w number n xs a b
    unfolding entries entry
    entries-other x a b hb ne = entry_other xs (i * n + j) (a * n + b) x (λ e. ne (same_row n a b i j hb hj e) (same-column n a b i j hb hj e))

  pub entries-elements : (F : Arith) (n : ℕ) (xs : List X) → F.width ≡ w → Els F (entries w number n xs)
  unfolding entries
  entries-elements F n xs e i j = subst (λ (v : ℕ). entries w number n xs i j < 2 ^ v) (sym e) (below xs (i * n + j))
    where
      below : (ys : List X) (k : ℕ) → get_or (map (element w number) ys) k 0 < 2 ^ w
      below [] k = pow_pos w
      below (y ∷ ys) zero = low-lt w (number y)
      below (y ∷ ys) (suc k) = below ys k

  pub entries-zero : (n : ℕ) (xs : List X) → ((k : ℕ) (d : X) → k < length xs → number (get_or xs k d) ≡ 0) → (i j : ℕ) → entries w number n xs i j ≡ 0
  unfolding entries
  entries-zero n xs h i j = zeros xs (i * n + j) h
    where
      zeros : (ys : List X) (k : ℕ) → ((m : ℕ) (d : X) → m < length ys → number (get_or ys m d) ≡ 0) → get_or (map (element w number) ys) k 0 ≡ 0
      zeros [] k h = refl
      zeros (y ∷ ys) zero h = ap (λ x. x % 2 ^ w) (h 0 y (omega arith)) ∙ mod-eq_of_lt (pow_pos w)
      zeros (y ∷ ys) (suc k) h = zeros ys k (λ m d l. h (suc m) d (omega arith))

  pub entries-map : (n : ℕ) (xs ys : List X) → map (element w number) xs ≡ map (element w number) ys → (i j : ℕ) → entries w number n xs i j ≡ entries w number n ys i j
  unfolding entries
  entries-map n xs ys e i j = ap (λ l. get_or l (i * n + j) 0) e

  -- a cell that is written as its own element
  pub map-low : (xs : List X) (k : ℕ) (d y : X) → k < length xs → number y ≡ element w number (get_or xs k d) % 2 ^ w → map (element w number) (set xs k y) ≡ map (element w number) xs
  map-low xs k d y l e =
      map-set (element w number) xs k y
      ∙ ap (set (map (element w number) xs) k) (
      ap (λ v. v % 2 ^ w) (e ∙ low-low w (number (get_or xs k d))) ∙ low-low w (number (get_or xs k d))
      ∙ sym (get_or-map (element w number) xs k d 0 l))
      ∙ set-get_or (map (element w number) xs) k 0

  -- a cell of a list in which a clean cell was written
  pub cell-clean : (xs : List X) (i k : ℕ) (x d : X) → k < length xs → number x < 2 ^ w → (k ≢ i → number (get_or xs k d) < 2 ^ w) → number (get_or (set xs i x) k d) < 2 ^ w
  cell-clean xs i k x d l h other =
      elim (cases_eq k i) [
        | inl q ↦ rw (ap (λ z. get_or (set xs i x) z d) q ∙ get_or-set_same xs i x d (omega arith)) h
        | inr ne ↦ rw (get_or-set_other xs i k x d ne) (other ne)
      ]

  pub clean-set : (xs : List X) (i : ℕ) (x : X) → number x < 2 ^ w → Clean w number xs → Clean w number (set xs i x)
  clean-set xs i x h e k d l = let l' : k < length xs = rw length-set at l in cell-clean xs i k x d l' h (λ _. e k d l')

  pub clean-zero : (xs : List X) → ((k : ℕ) (d : X) → k < length xs → number (get_or xs k d) ≡ 0) → Clean w number xs
  clean-zero xs h k d l = subst (λ v. v < 2 ^ w) (sym (h k d l)) (pow_pos w)

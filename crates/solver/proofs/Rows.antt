-- Tables in which one row was written. Assumes nothing.
use Rattle.std.proofs.Common.{◌≡◌, ℕ, ◌+◌, ◌-◌, ◌*◌, ◌^◌, ◌<◌, ◌≤◌, ◌≢◌, List, ◌++◌, map, length, get_or, take, drop, sym, refl, ap, ap₂, ◌∙◌, subst, inl, inr, arith, rules, append_assoc, length-append, length-take, length-drop, below_more, set}
use lib.Bits.{bit_xor}
use borrow.Rule.Slice.PartMut.{put_mid, mid_of}
use Rattle.std.proofs.lemmas.Bool.{cases_eq}
use Rattle.std.proofs.lemmas.List.{take-append-le, drop-append-le, map-append, take-map, drop-map, places, length-map, get_or-take, get_or-drop, get_or_append_left, get_or-append_right}
use Rattle.std.proofs.Math.Nat.{mul-le-mul_left}
use Rattle.std.proofs.Math.Seq.{take-append_seam, drop-append_seam}
use Prim.{yes, no}
use native.Mathlib.Decide.{dec_lt}
use Rattle.field.specs.declared.Field.{Ghosts}
use Rattle.matrix.specs.Matrix.{Mat, Same, add_row, scale_row, swap_rows}
use Rattle.matrix.proofs.Rows.{add-row-on, add-row-off, scale-row-on, scale-row-off, swap-rows-first, swap-rows-second, swap-rows-off}
use Rattle.solver.proofs.Grid.{entry_set, entry_other, cell-clean}
use Rattle.solver.specs.Cells.{element, entry, entries, Clean}
use Rattle.solver.specs.Squares.{matrix}
use Rattle.solver.specs.declared.Square.{Square}

-- row i of rows of n cells, as the slice from i * n to i * n + n, and a write to it
abbrev pub row : {X : Type 0} → ℕ → ℕ → List X → List X
row n i xs = mid_of (i * n) (i * n + n - i * n) xs

abbrev pub with_row : {X : Type 0} → ℕ → ℕ → List X → List X → List X
with_row n i xs ys = put_mid (i * n) (i * n + n - i * n) xs ys

-- rows of n cells in two parts: row i lies in the first, row r begins the second
pub record Halves {X : Type 0} (n : ℕ) (xs low high : List X) (i r : ℕ) : Type 0 where
  pub value : xs ≡ low ++ high
  pub at : length low ≡ r * n
  pub below : i < r

pub halves : {X : Type 0} {n i r : ℕ} {xs low high : List X} → xs ≡ low ++ high → length low ≡ r * n → i < r → Halves n xs low high i r
halves e at lt = record {
  value = e;
  at = at;
  below = lt;
}

length-part : {X : Type 0} (p k : ℕ) (xs ys : List X) → p + k ≤ length xs → length ys ≡ k → length (put_mid p k xs ys) ≡ length xs
length-part p k xs ys h e = omega (arith, length-append (take p xs) (ys ++ drop k (drop p xs)), length-append ys (drop k (drop p xs)), length-take p xs, length-drop k (drop p xs), length-drop p xs)

-- a row of one part is a row of the whole, and so is a write to it
module _ {X : Type 0} {n i r : ℕ} {xs low high : List X} (h : Halves n xs low high i r) where
  low-fits : i * n + n ≤ length low
  low-fits = let q : i + 1 ≤ r = omega arith in omega (arith, mul-le-mul_left n q)

  low-start : i * n ≤ length low
  low-start = omega (arith, low-fits)

  low-rest : i * n + n - i * n ≤ length (drop (i * n) low)
  low-rest = omega (arith, length-drop (i * n) low, low-fits)

  pub low-row : row n i low ≡ row n i xs
  low-row =
      sym (take-append-le (i * n + n - i * n) (drop (i * n) low) high low-rest) ∙ ap (take (i * n + n - i * n)) (sym (drop-append-le (i * n) low high low-start))
      ∙ ap (row n i) (sym h.value)

  pub low-write : (ys : List X) → with_row n i low ys ++ high ≡ with_row n i xs ys
  low-write ys =
      let k = i * n + n - i * n in
      append_assoc (take (i * n) low) (ys ++ drop k (drop (i * n) low)) high
      ∙ ap (λ l. take (i * n) low ++ l) (append_assoc ys (drop k (drop (i * n) low)) high)
      ∙ ap₂ (λ l m. l ++ (ys ++ m)) (sym (take-append-le (i * n) low high low-start)) (sym (ap (drop k) (drop-append-le (i * n) low high low-start) ∙ drop-append-le k (drop (i * n) low) high low-rest))
      ∙ ap (λ l. with_row n i l ys) (sym h.value)

  parts : (take (r * n) xs ≡ low) × (drop (r * n) xs ≡ high)
  parts =
      subst (λ (q : ℕ). (take q xs ≡ low) × (drop q xs ≡ high)) h.at
      (ap (take (length low)) h.value ∙ take-append_seam low high, ap (drop (length low)) h.value ∙ drop-append_seam low high)

  pub high-row : take n high ≡ row n r xs
  high-row = ap₂ take (omega arith) (sym parts.1)

  pub high-write : (ys : List X) → low ++ (ys ++ drop n high) ≡ with_row n r xs ys
  high-write ys = ap₂ (λ l m. l ++ (ys ++ m)) (sym parts.0) (ap₂ drop (omega arith) (sym parts.1))

  pub half-written : (ys : List X) → length ys ≡ n → Halves n (with_row n i xs ys) (with_row n i low ys) high i r
  half-written ys e = halves (sym (low-write ys)) (length-part (i * n) (i * n + n - i * n) low ys (omega (arith, low-fits)) (omega arith) ∙ h.at) h.below

map-part : {X Y : Type 0} (f : X → Y) (p k : ℕ) (xs ys : List X) → map f (put_mid p k xs ys) ≡ put_mid p k (map f xs) (map f ys)
map-part f p k xs ys = simp (map-append, take-map, drop-map)

map-mid : {X Y : Type 0} (f : X → Y) (p k : ℕ) (xs : List X) → map f (mid_of p k xs) ≡ mid_of p k (map f xs)
map-mid f p k xs = simp (take-map, drop-map)

module _ {X : Type 0} (w : ℕ) (number : X → ℕ) (n : ℕ) where
  row-read : (i j : ℕ) (xs : List X) → j < n → entry w number (row n i xs) j ≡ entries w number n xs i j
  unfolding entry entries
  row-read i j xs h =
      let k = i * n + n - i * n in
      ap (λ l. get_or l j 0) (map-mid (element w number) (i * n) k xs) ∙ search (rules, places)

  module _ (xs ys : List X) (i : ℕ) (hi : i < n) (size : length xs ≡ n * n) (long : length ys ≡ n) where
    fits : i * n + n ≤ n * n
    fits = let h : i + 1 ≤ n = omega arith in omega (arith, mul-le-mul_left n h)

    pub written-on : (j : ℕ) → j < n → entries w number n (with_row n i xs ys) i j ≡ entry w number ys j
    unfolding entry entries
    written-on j hj =
        let f = element w number in
        let ly : j < length (map f ys) = omega (arith, length-map ys f) in
        let lx : i * n ≤ length (map f xs) = omega (arith, length-map xs f, fits) in
        ap (λ l. get_or l (i * n + j) 0) (map-part f (i * n) (i * n + n - i * n) xs ys) ∙ search (rules, places)

    pub written-off : (a j : ℕ) → a ≢ i → a < n → j < n → entries w number n (with_row n i xs ys) a j ≡ entries w number n xs a j
    unfolding entries
    written-off a j ne ha hj =
        let f = element w number in
        let ly : length (map f ys) ≡ n = length-map ys f ∙ long in
        let lx : i * n + n ≤ length (map f xs) = omega (arith, length-map xs f, fits) in
        ap (λ l. get_or l (a * n + j) 0) (map-part f (i * n) (i * n + n - i * n) xs ys)
        ∙ elim (dec_lt a i) [
          | yes lt ↦ let q : a + 1 ≤ i = omega arith in let m : a * n + j < i * n = omega (arith, mul-le-mul_left n q) in search (rules, places)
          | no ge ↦ let q : i + 1 ≤ a = omega arith in let m : i * n + n ≤ a * n + j = omega (arith, mul-le-mul_left n q) in search (rules, places)
        ]

    -- a table whose row i is that of N, and which has the other rows of N already
    changed : (N : Mat) → ((j : ℕ) → j < n → entry w number ys j ≡ N i j) → ((a j : ℕ) → a ≢ i → a < n → j < n → N a j ≡ entries w number n xs a j)
        → Same n (entries w number n (with_row n i xs ys)) N
    changed N on off a j ha hj =
        elim (cases_eq a i) [
          | inl e ↦ subst (λ b. entries w number n (with_row n i xs ys) b j ≡ N b j) (sym e) (written-on j hj ∙ on j hj)
          | inr ne ↦ written-off a j ne ha hj ∙ sym (off a j ne ha hj)
        ]

    written-size : length (with_row n i xs ys) ≡ n * n
    written-size = length-part (i * n) (i * n + n - i * n) xs ys (omega (arith, fits)) (omega arith) ∙ size

pub row-long : (n i : ℕ) {X : Type 0} (xs : List X) → i < n → length xs ≡ n * n → length (row n i xs) ≡ n
row-long n i xs hi size = let h : i + 1 ≤ n = omega arith in omega (arith, length-take (i * n + n - i * n) (drop (i * n) xs), length-drop (i * n) xs, mul-le-mul_left n h)

-- the cells of a part are clean, and so are those of clean lists together
module _ {X : Type 0} (w : ℕ) (number : X → ℕ) where
  clean-take : (k : ℕ) (xs : List X) → Clean w number xs → Clean w number (take k xs)
  clean-take k xs h q d l =
      let m : q < length xs = omega (arith, length-take k xs) in
      let n : q < k = omega (arith, length-take k xs) in
      rw (get_or-take k xs q d n) (h q d m)

  clean-drop : (k : ℕ) (xs : List X) → Clean w number xs → Clean w number (drop k xs)
  clean-drop k xs h q d l = rw (get_or-drop k xs q d) (h (k + q) d (omega (arith, length-drop k xs)))

  clean-append : (xs ys : List X) → Clean w number xs → Clean w number ys → Clean w number (xs ++ ys)
  clean-append xs ys hx hy q d l = elim (dec_lt q (length xs)) [
    | yes a ↦ rw (get_or_append_left xs ys d q a) (hx q d a)
    | no b ↦ rw (get_or-append_right xs ys (length xs) q d refl (omega arith)) (hy (q - length xs) d (omega (arith, length-append xs ys)))
  ]

  row-clean : (n i : ℕ) (xs : List X) → Clean w number xs → Clean w number (row n i xs)
  row-clean n i xs h = clean-take (i * n + n - i * n) (drop (i * n) xs) (clean-drop (i * n) xs h)

  written-clean : (n i : ℕ) (xs ys : List X) → Clean w number xs → Clean w number ys → Clean w number (with_row n i xs ys)
  written-clean n i xs ys h h' =
      let k = i * n + n - i * n in
      clean-append (take (i * n) xs) (ys ++ drop k (drop (i * n) xs)) (clean-take (i * n) xs h)
      (clean-append ys (drop k (drop (i * n) xs)) h' (clean-drop k (drop (i * n) xs) (clean-drop (i * n) xs h)))

-- what scaling and adding leave in a table of which row i, us, is written as ys
module _ {X C : Type 0} {f : Ghosts X C} (t : Square X C f) (i : ℕ) (ys : List C) {us zs : List C} (e : us ≡ row t.order i t.cells.now) (z : zs ≡ with_row t.order i t.cells.now ys) (hi : i < t.order) (kept : length ys ≡ length us) where
  was-long : length us ≡ t.order
  was-long = ap length e ∙ row-long t.order i t.cells.now hi t.square

  row-changed : (N : Mat) → ((j : ℕ) → j < t.order → entry f.WIDTH f.number ys j ≡ N i j) → ((a j : ℕ) → a ≢ i → N a j ≡ matrix t a j) → Same t.order (entries f.WIDTH f.number t.order zs) N
  row-changed N on off = subst (λ l. Same t.order (entries f.WIDTH f.number t.order l) N) (sym z)
      (changed f.WIDTH f.number t.order t.cells.now ys i hi t.square (kept ∙ was-long) N on (λ a j ne _ _. off a j ne))

  pub row-written : Clean f.WIDTH f.number ys → Clean f.WIDTH f.number zs
  row-written h = subst (Clean f.WIDTH f.number) (sym z) (written-clean f.WIDTH f.number t.order i t.cells.now ys t.clean h)

  pub row-scaled : (s : C) → ((k : ℕ) → k < length us → entry f.WIDTH f.number ys k ≡ f.arith.mul (element f.WIDTH f.number s) (entry f.WIDTH f.number us k))
      → Same t.order (entries f.WIDTH f.number t.order zs) (scale_row f.arith i (element f.WIDTH f.number s) (matrix t))
  row-scaled s h =
      let v = element f.WIDTH f.number s in
      row-changed (scale_row f.arith i v (matrix t))
      (λ j l. h j (omega (arith, was-long)) ∙ ap (λ x. f.arith.mul v (entry f.WIDTH f.number x j)) e ∙ ap (f.arith.mul v) (row-read f.WIDTH f.number t.order i j t.cells.now l)
      ∙ sym (scale-row-on f.arith i v (matrix t) i j refl))
      (λ a j ne. scale-row-off f.arith i v (matrix t) a j ne)

  pub row-added : (s : C) (r : ℕ) {vs : List C} → vs ≡ row t.order r t.cells.now
      → ((k : ℕ) → k < length us → entry f.WIDTH f.number ys k ≡ bit_xor (entry f.WIDTH f.number us k) (f.arith.mul (element f.WIDTH f.number s) (entry f.WIDTH f.number vs k)))
      → Same t.order (entries f.WIDTH f.number t.order zs) (add_row f.arith i r (element f.WIDTH f.number s) (matrix t))
  row-added s r e' h =
      let v = element f.WIDTH f.number s in
      row-changed (add_row f.arith i r v (matrix t))
      (λ j l. h j (omega (arith, was-long))
      ∙ ap₂ (λ x y. bit_xor (entry f.WIDTH f.number x j) (f.arith.mul v (entry f.WIDTH f.number y j))) e e'
      ∙ ap₂ (λ x y. bit_xor x (f.arith.mul v y)) (row-read f.WIDTH f.number t.order i j t.cells.now l) (row-read f.WIDTH f.number t.order r j t.cells.now l)
      ∙ sym (add-row-on f.arith i r v (matrix t) i j refl))
      (λ a j ne. add-row-off f.arith i r v (matrix t) a j ne)

-- what the exchange of row i, us, and row r, vs, leaves
module _ {X C : Type 0} {f : Ghosts X C} (t : Square X C f) {i r : ℕ} {low high us vs : List C} (h : Halves t.order t.cells.now low high i r) (hr : r < t.order) (ea : us ≡ row t.order i low) (eb : vs ≡ take t.order high) where
  hi : i < t.order
  hi = omega arith

  one : us ≡ row t.order i t.cells.now
  one = ea ∙ low-row h

  two : vs ≡ row t.order r t.cells.now
  two = eb ∙ high-row h

  two-long : length vs ≡ t.order
  two-long = ap length two ∙ row-long t.order r t.cells.now hr t.square

  half-size : length (with_row t.order i t.cells.now vs) ≡ t.order * t.order
  half-size = written-size f.WIDTH f.number t.order t.cells.now vs i hi t.square two-long

  twice : with_row t.order i low vs ++ (us ++ drop t.order high) ≡ with_row t.order r (with_row t.order i t.cells.now vs) us
  twice = high-write (half-written h vs two-long) us

  pub swap-clean : Clean f.WIDTH f.number (with_row t.order i low vs ++ (us ++ drop t.order high))
  swap-clean =
      let w = f.WIDTH in
      let n = t.order in
      let xs = t.cells.now in
      subst (Clean w f.number) (sym twice)
      (written-clean w f.number n r (with_row n i xs vs) us
      (written-clean w f.number n i xs vs t.clean (subst (Clean w f.number) (sym two) (row-clean w f.number n r xs t.clean)))
      (subst (Clean w f.number) (sym one) (row-clean w f.number n i xs t.clean)))

  pub row-swapped : Same t.order (entries f.WIDTH f.number t.order (with_row t.order i low vs ++ (us ++ drop t.order high))) (swap_rows i r (matrix t))
  row-swapped =
      let w = f.WIDTH in
      let n = t.order in
      let xs = t.cells.now in
      let M = matrix t in
      subst (λ l. Same n (entries w f.number n l) (swap_rows i r M)) (sym twice)
      (changed w f.number n (with_row n i xs vs) us r hr half-size (ap length one ∙ row-long n i xs hi t.square) (swap_rows i r M)
      (λ j l. ap (λ x. entry w f.number x j) one ∙ row-read w f.number n i j xs l ∙ sym (swap-rows-second i r M r j refl))
      (λ a j ne ha hj. elim (cases_eq a i) [
        | inl e ↦ swap-rows-first i r M a j e ∙ sym (row-read w f.number n r j xs hj) ∙ sym (ap (λ x. entry w f.number x j) two)
            ∙ sym (written-on w f.number n xs vs i hi t.square two-long j hj) ∙ ap (λ b. entries w f.number n (with_row n i xs vs) b j) (sym e)
        | inr ne' ↦ swap-rows-off i r M a j ne' ne ∙ sym (written-off w f.number n xs vs i hi t.square two-long a j ne' ha hj)
      ]))

-- the first k cells of a row are clean and as g says, the others are those of xs
pub record Done {X : Type 0} (w : ℕ) (number : X → ℕ) (g : ℕ → ℕ) (xs ys : List X) (k : ℕ) : Type 0 where
  pub done : (j : ℕ) → j < k → entry w number ys j ≡ g j
  pub rest : (j : ℕ) → k ≤ j → entry w number ys j ≡ entry w number xs j
  pub clean : (j : ℕ) (d : X) → j < k → number (get_or ys j d) < 2 ^ w

module _ {X : Type 0} (w : ℕ) (number : X → ℕ) (g : ℕ → ℕ) (xs ys : List X) where
  pub done-more : (k : ℕ) (v : X) → k < length ys → element w number v ≡ g k → number v < 2 ^ w → Done w number g xs ys k → Done w number g xs (set ys k v) (k + 1)
  done-more k v lt e h d = record {
    done = below_more _ _ (λ j l. entry_other w number ys k j v (omega arith) ∙ d.done j l) (entry_set w number ys k v lt ∙ e);
    rest = λ j l. entry_other w number ys k j v (omega arith) ∙ d.rest j (omega arith);
    clean = λ j x l. cell-clean w number ys k j v x (omega arith) h (λ ne. d.clean j x (omega arith));
  }

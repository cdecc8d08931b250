-- Columns in rows of bits, by either layout. Assumes nothing.
use Rattle.std.proofs.Common.{◌≡◌, ℕ, ◌+◌, ◌%◌, ◌<◌, ◌≤◌, Bool, true, false, cond, eqb, List, [], length, get_or, replicate, is_ok, Ok, sym, refl, ap, ◌∙◌, inl, inr, arith}
use Rattle.std.proofs.lemmas.Grind.{common_steps}
use Rattle.std.proofs.lemmas.List.{get_or_past}
use Rattle.std.proofs.lemmas.Bool.{cases_lt, eq-eqb, ne_eqb, cond-true, cond-false}
use Rattle.matrix.specs.Matrix.{Mat}
use Rattle.bits.specs.Bits.{bytes_for, bits_of, pad_bit, of_rows}
use Rattle.bits.specs.Columns.{columns_of, entry_of}
use Rattle.bits.proofs.Packs.{bits-pack-in, bits-lt, pad-in, pad-out}
use Rattle.bits.proofs.Columns.{get_or-columns, length-columns}
use Rattle.sink.specs.Layout.{width, wanted, Blank, Written}
use Rattle.sink.specs.Store.{Taking, store_in, book_matrix, key_matrix, matrix_in, bytes_in, check_in}
use Rattle.sink.proofs.Rows.{rows-bytes, rows-blank, of_rows-lt, bits_none}
use Rattle.sink.proofs.Stores.{takes}

-- a cleared memory
pub cleared : (c : Bool) (n l m : ℕ) → Blank c n l 0 (replicate m 0)
cleared c n l m a b _ = rows-blank (bytes_for (width c n l)) m a b

-- the matrix after a column is written
written-entry : (c : Bool) (n l k : ℕ) (v xs ys : List ℕ) → Written c n l k v xs ys → (i j : ℕ) → i < n → j < l
    → matrix_in c n l ys i j ≡ cond (eqb j k) (pad_bit n (bits_of v) i) (matrix_in c n l xs i j)
written-entry true n l k v xs ys w i j li lj = w.bits j i lj (omega arith)
written-entry false n l k v xs ys w i j li lj = w.bits i j li (omega arith)

pub written-takes : (c : Bool) (n l k : ℕ) (wh : Bool) (xs ys v : List ℕ) → wh ≡ true → length v ≡ bytes_for n → k < l → Written c n l k v xs ys
    → Taking (store_in c n l k wh xs) (store_in c n l (k + 1) wh ys) v (Ok tt)
written-takes c n l k wh xs ys v made hv hk w =
    takes n l k wh xs ys (matrix_in c n l xs) (matrix_in c n l ys) v made hv hk
    (λ i j li lj.
    let ne : j ≡ k → ⊥ = λ e. omega arith in
    written-entry c n l k v xs ys w i j li (omega arith) ∙ cond-false (eqb j k) _ _ (ne_eqb j k ne))
    (λ i li.
    let small = bits-lt v i in
    written-entry c n l k v xs ys w i k li hk ∙ cond-true (eqb k k) _ _ (eq-eqb k k refl)
    ∙ pad-in n (bits_of v) i li ∙ (let e : bits_of v i % 2 ≡ bits_of v i = omega arith in e))

-- the columns tell each entry of the matrix
entry-told : (n k : ℕ) (e : Mat) (i j : ℕ) → i < n → e i j < 2 → (k ≤ j → e i j ≡ 0) → entry_of (columns_of n k e) i j ≡ e i j
entry-told n k e i j li small blank = elim (cases_lt j k) [
  | inl h ↦ ap (λ c. bits_of c i) (get_or-columns n k e j h) ∙ bits-pack-in n (λ i. e i j) i li small
  | inr h ↦
      ap (λ c. bits_of c i) (get_or_past (columns_of n k e) j [] (let m = length-columns n k e in omega arith))
      ∙ bits_none i ∙ sym (blank h)
]

pad-told : (w : ℕ) (f : ℕ → ℕ) (b x : ℕ) → x < 2 → (b < w → f b ≡ x) → (w ≤ b → x ≡ 0) → pad_bit w f b ≡ x
pad-told w f b x small within past = elim (cases_lt b w) [
  | inl h ↦ let e = within h in pad-in w f b h ∙ (let m : f b % 2 ≡ x = omega arith in m)
  | inr h ↦ pad-out w f b h ∙ sym (past h)
]

-- a memory that was made and holds k columns
made-told : (c : Bool) (n l k : ℕ) (xs : List ℕ) → k ≤ l → length xs ≡ wanted c n l → ((p : ℕ) → p < length xs → get_or xs p 0 < 256) → Blank c n l k xs
    → xs ≡ bytes_in c (store_in c n l k true xs)
made-told true n l k xs kl len small blank =
    rows-bytes l n xs (λ j i. entry_of (columns_of n k (book_matrix n xs)) i j) len small
    (λ a b la lb.
    let s = of_rows-lt (bytes_for n) xs a b in
    pad-told n (λ i. entry_of (columns_of n k (book_matrix n xs)) i a) b (of_rows (bytes_for n) xs a b) s
    (λ h. entry-told n k (book_matrix n xs) b a h s (λ p. blank a b (la, lb, inl p)))
    (λ h. blank a b (la, lb, inr h)))
made-told false n l k xs kl len small blank =
    rows-bytes n l xs (entry_of (columns_of n k (key_matrix l xs))) len small
    (λ a b la lb.
    let s = of_rows-lt (bytes_for l) xs a b in
    pad-told l (entry_of (columns_of n k (key_matrix l xs)) a) b (of_rows (bytes_for l) xs a b) s
    (λ h. entry-told n k (key_matrix l xs) a b la s (λ p. blank a b (la, lb, inl p)))
    (λ h. blank a b (la, lb, inl (omega arith))))

pub told : (c : Bool) (n l k : ℕ) (wh : Bool) (xs : List ℕ) → k ≤ l → (wh ≡ true → length xs ≡ wanted c n l) → ((p : ℕ) → p < length xs → get_or xs p 0 < 256)
    → (wh ≡ true → Blank c n l k xs) → xs ≡ bytes_in c (store_in c n l k wh xs)
told c n l k true xs kl len small blank = made-told c n l k xs kl (len refl) small (blank refl)
told true n l k false xs kl len small blank = refl
told false n l k false xs kl len small blank = refl

-- what is not refused has memory of the right length
pub check-room : (c : Bool) (n l m : ℕ) → is_ok (check_in c n l m) ≡ true → m ≡ wanted c n l
check-room true n l m ok = grind (arith, common_steps)
check-room false n l m ok = grind (arith, common_steps)

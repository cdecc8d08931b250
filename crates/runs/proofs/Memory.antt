-- The inverse memory, row by row, and what it comes to. Assumes nothing.
use Rattle.std.proofs.Common.{◌≡◌, ℕ, ◌+◌, ◌-◌, ◌*◌, ◌/◌, ◌%◌, ◌<◌, ◌≤◌, not, eqb, List, [], ◌++◌, length, get_or, take, drop, sym, ap, subst, suc-mul, ◌∙◌, arith, div-lt_iff_lt-mul, mod-lt, mul_comm, get_or-take, length-take-le, eqb-true}
use native.Mathlib.Nat.{div-add-mod}
use borrow.Author.Tests.{not-false, not-true, eqb-false}
use borrow.Rule.Slice.PartMut.{post_of, put_mid, drop_put}
use Rattle.std.proofs.lemmas.List.{drop-drop, get_or_append_left, get_or-append_right}
use Rattle.std.proofs.lemmas.List.FromFn.{fill_by_all}
use Rattle.galois.specs.Bit.{bits, both}
use Rattle.matrix.specs.Matrix.{Mat, Els, Same, delta, times, apply_row}
use Rattle.matrix.specs.Search.{least}
use Rattle.matrix.specs.Words.{LeftInverse, Singular, TheOnly}
use Rattle.matrix.proofs.Sums.{sum-cong}
use Rattle.matrix.proofs.Searches.{none_passes, least-passes}
use Rattle.matrix.proofs.Inverse.{left-is-right}
use Rattle.matrix.proofs.Checks.{algebra, dependent-singular}
use Rattle.bits.specs.Bits.{bytes_for, bit_of, bits_of, byte_at, of_rows, pack}
use Rattle.bits.specs.Columns.{columns_of, entry_of, packed_rows}
use Rattle.bits.proofs.Packs.{bits-pack-in, bits-lt, bit-lt, pack-cong, get_or-pack, length-pack, apply_row-times, apply_row-lt}
use Rattle.bits.proofs.Columns.{length-columns, get_or-columns}
use Rattle.session.specs.Table.{Secret, wrong, nonzero, leading}
use Rattle.session.specs.Answers.{with_row, unblinded}
use Rattle.session.proofs.Products.{row-entries, product_lt, entry-columns}
use Rattle.runs.specs.Law.{Inverts, Untouched, SameProduct}
use Rattle.runs.specs.Reached.{Held}

-- a row written in its place
module _ (n i : ℕ) (bytes memory : List ℕ) (size : length bytes ≡ bytes_for n) (room : i * bytes_for n + bytes_for n ≤ length memory) where
  pub row_in-place : (b : ℕ) → b < bytes_for n → get_or (with_row n i bytes memory) (i * bytes_for n + b) 0 ≡ get_or bytes b 0
  row_in-place b h =
      let a = i * bytes_for n in
      let at : a + b - a ≡ b = omega arith in
      get_or-append_right (take a memory) (bytes ++ post_of a (bytes_for n) memory) a (a + b) 0 (length-take-le a memory (omega (arith, room))) (omega arith)
      ∙ ap (λ k. get_or (bytes ++ post_of a (bytes_for n) memory) k 0) at
      ∙ get_or_append_left bytes (post_of a (bytes_for n) memory) 0 b (omega (arith, size, h))

  pub row-below : (p : ℕ) → p < i * bytes_for n → get_or (with_row n i bytes memory) p 0 ≡ get_or memory p 0
  row-below p h =
      let a = i * bytes_for n in
      get_or_append_left (take a memory) (bytes ++ post_of a (bytes_for n) memory) 0 p (omega (arith, h, room, length-take-le a memory (omega (arith, room))))
      ∙ get_or-take a memory p 0 h

  pub row-past : drop (i * bytes_for n + bytes_for n) (with_row n i bytes memory) ≡ drop (i * bytes_for n + bytes_for n) memory
  row-past =
      let a = i * bytes_for n in
      let w : a + bytes_for n - a ≡ bytes_for n = omega arith in
      ap (λ q. drop (a + bytes_for n) (put_mid a q memory bytes)) (sym w) ∙ drop_put a (a + bytes_for n) memory bytes (omega arith) room (size ∙ sym w)

-- as many rows
pub same-rows : (n : ℕ) {a b : ℕ} → a ≡ b → (memory before : List ℕ) → Untouched n b before memory → Untouched n a before memory
same-rows n e memory before h = subst (λ c. Untouched n c before memory) (sym e) h

-- one row more
pub one-row-more : (n t : ℕ) (bytes memory before : List ℕ) → length bytes ≡ bytes_for n → t * bytes_for n + bytes_for n ≤ length memory → Untouched n t before memory → Untouched n (t + 1) before (with_row n t bytes memory)
one-row-more n t bytes memory before size room h =
    let w = bytes_for n in
    let s : (t + 1) * w ≡ t * w + w = omega (arith, suc-mul t w) in
    (λ i. drop (s i) (with_row n t bytes memory))
    ∙ row-past n t bytes memory size room
    ∙ sym (drop-drop w (t * w) memory)
    ∙ ap (drop w) h
    ∙ drop-drop w (t * w) before
    ∙ (λ i. drop (sym s i) before)

-- bytes of equal vectors
byte-cong : (n : ℕ) (f g : ℕ → ℕ) (b : ℕ) → b < bytes_for n → ((k : ℕ) → k < n → f k ≡ g k) → byte_at n f b ≡ byte_at n g b
byte-cong n f g b h same = sym (get_or-pack n f b h) ∙ ap (λ xs. get_or xs b 0) (pack-cong n f g same) ∙ get_or-pack n g b h

-- a row that is as it was
pub held-same : (n : ℕ) (H : Mat) (memory memory' : List ℕ) (i : ℕ) → ((b : ℕ) → b < bytes_for n → get_or memory' (i * bytes_for n + b) 0 ≡ get_or memory (i * bytes_for n + b) 0) → Held n H memory i → Held n H memory' i
unfolding of_rows times
held-same n H memory memory' i same held =
    let bit : (j : ℕ) → j < n → of_rows (bytes_for n) memory' i j ≡ of_rows (bytes_for n) memory i j = λ j h. ap (λ x. bit_of x (j % 8)) (same (j / 8) (omega arith)) in
    record {
      clean = λ b h. same b h ∙ held.clean b h ∙ sym (byte-cong n (of_rows (bytes_for n) memory' i) (of_rows (bytes_for n) memory i) b h bit);
      undoes = λ j h. sum-cong n _ _ (λ l hl. ap (λ x. both x (H l j)) (bit l hl)) ∙ held.undoes j h;
    }

-- a row that was written
pub held-new : (n t : ℕ) (R H : Mat) (s memory : List ℕ) → t * bytes_for n + bytes_for n ≤ length memory
    → ((j : ℕ) → j < n → apply_row bits n (times bits n R H) (bits_of s) j ≡ delta t j) → Held n H (with_row n t (unblinded n R s) memory) t
unfolding of_rows times apply_row bits_of
held-new n t R H s memory room unit =
    let f : ℕ → ℕ = apply_row bits n R (bits_of s) in
    let memory' : List ℕ = with_row n t (pack n f) memory in
    let at : (b : ℕ) → b < bytes_for n → get_or memory' (t * bytes_for n + b) 0 ≡ get_or (pack n f) b 0 = row_in-place n t (pack n f) memory (length-pack n f) room in
    let bit : (j : ℕ) → j < n → of_rows (bytes_for n) memory' t j ≡ f j = λ j h. ap (λ x. bit_of x (j % 8)) (at (j / 8) (omega arith)) ∙ bits-pack-in n f j h (apply_row-lt bits n R (bits_of s) j) in
    record {
      clean = λ b h. at b h ∙ get_or-pack n f b h ∙ byte-cong n f (of_rows (bytes_for n) memory' t) b h (λ k l. sym (bit k l));
      undoes = λ j h. sum-cong n _ _ (λ l hl. ap (λ x. both x (H l j)) (bit l hl)) ∙ sym (apply_row-times bits n R H (bits_of s) j) ∙ unit j h;
    }

-- a row that was not found wrong
pub right-row : (n t : ℕ) (R H : Mat) (s : List ℕ) → n ≤ wrong n (columns_of n n (times bits n R H)) s t → (j : ℕ) → j < n → apply_row bits n (times bits n R H) (bits_of s) j ≡ delta t j
unfolding wrong
right-row n t R H s none j h =
    sym (row-entries n (times bits n R H) (bits_of s) j h (product_lt n R H))
    ∙ eqb-true _ _ (not-false _ (none_passes n (λ j. not (eqb (apply_row bits n (entry_of (columns_of n n (times bits n R H))) (bits_of s) j) (delta t j))) none j h))

-- a combination that was taken
pub found-singular : (n : ℕ) (B : List (List ℕ)) (v : List ℕ) → leading n v < n → n ≤ nonzero n B v → Singular bits n (entry_of B)
unfolding leading nonzero apply_row
found-singular n B v some none =
    dependent-singular bits n (entry_of B) (bits_of v) (λ i j. bits-lt (get_or B j []) i) (λ j h. bits-lt v j)
    (record {
      at = least n (λ j. not (eqb (bits_of v j) 0));
      at_lt = some;
      nonzero = eqb-false _ _ (not-true _ (least-passes n (λ j. not (eqb (bits_of v j) 0)) some));
      vanish = λ j h. eqb-true _ _ (not-false _ (none_passes n (λ j. not (eqb (apply_row bits n (entry_of B) (bits_of v) j) 0)) none j h));
    })

-- a memory all of whose rows are held
module _ (n : ℕ) (H : Mat) (memory : List ℕ) (els : Els bits H) (rows : (i : ℕ) → i < n → Held n H memory i) where
  pub left_inverse : LeftInverse bits n H (of_rows (bytes_for n) memory)
  unfolding of_rows
  left_inverse = record { elements = λ i j. bit-lt (get_or memory (i * bytes_for n + j / 8) 0) (j % 8); undoes = λ i j hi hj. (rows i hi).undoes j hj }

  pub inverts : 0 < n → length memory ≡ n * bytes_for n → Inverts n H memory
  unfolding packed_rows
  inverts some long = record {
    packed = fill_by_all (λ p. byte_at n (of_rows (bytes_for n) memory (p / bytes_for n)) (p % bytes_for n)) memory (n * bytes_for n) 0 long
        (λ p h.
        let w = bytes_for n in
        let inside : p / w < n = (div-lt_iff_lt-mul (omega (arith, some))).1 h in
        let low : p % w < w = mod-lt p (omega (arith, some)) in
        let back : p / w * w + p % w ≡ p = omega (arith, div-add-mod p w, mul_comm (p / w) w) in
        ap (λ q. get_or memory q 0) (sym back) ∙ (rows (p / w) inside).clean (p % w) low);
    left = λ i j hi hj. (rows i hi).undoes j hj;
    right = left-is-right bits n (of_rows (bytes_for n) memory) H left_inverse.elements els left_inverse.undoes;
  }

-- columns of matrices that are equal below n
columns_same : (n : ℕ) (A B : Mat) → Same n A B → columns_of n n A ≡ columns_of n n B
unfolding columns_of
columns_same n A B same =
    fill_by_all (λ j. pack n (λ i. B i j)) (columns_of n n A) n [] (length-columns n n A)
    (λ j l. get_or-columns n n A j l ∙ pack-cong n (λ i. A i j) (λ i. B i j) (λ i h. same i j h l))

-- the one blinding of another key with the same product
pub reblinds : (s : Secret) (H' S' : Mat) → Els bits H' → LeftInverse bits s.set.rows H' S' → (R' : Mat) × TheOnly s.set.rows s.set.rows (SameProduct s H') R'
reblinds s H' S' els inv =
    let n = s.set.rows in
    let one = (algebra bits).reblinded n s.checks H' S' s.blinding els inv in (
      one.0,
      record {
        has = record { elements = one.1.has.elements; same = columns_same n (times bits n one.0 H') (times bits n s.blinding s.checks) one.1.has.alike };
        only = λ R'' p. one.1.only R'' (record {
          elements = p.elements;
          alike = λ i j hi hj.
              sym (entry-columns n n (times bits n R'' H') i j hi hj (product_lt n R'' H' i j))
              ∙ ap (λ c. entry_of c i j) p.same
              ∙ entry-columns n n (times bits n s.blinding s.checks) i j hi hj (product_lt n s.blinding s.checks i j);
        });
      },
    )

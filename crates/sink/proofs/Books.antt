-- A column written into and read from a column book. Assumes nothing.
use Rattle.std.proofs.Common.{◌≡◌, ℕ, ◌+◌, ◌-◌, ◌*◌, ◌/◌, ◌%◌, ◌<◌, ◌≤◌, true, cond, eqb, List, ◌++◌, length, get_or, take, drop, sym, ap, ◌∙◌, inl, inr, mul-le-mul_right, suc-mul, arith}
use borrow.Rule.Slice.PartMut.{put_mid, post_of}
use lib.ListN.{length-append, length-drop}
use Rattle.std.proofs.lemmas.List.{get_or-take, get_or-drop, get_or_append_left, get_or-append_right, length-take-le}
use Rattle.std.proofs.lemmas.Bool.{cases_eq, cases_lt, eq-eqb, ne_eqb, cond-true, cond-false}
use Rattle.bits.specs.Bits.{bytes_for, bit_of, bits_of, of_rows, pack}
use Rattle.bits.proofs.Packs.{pack-cong, bits-pack, length-pack}
use Rattle.sink.specs.Layout.{Written}
use Rattle.sink.specs.Store.{book_matrix}

-- a byte after a write to a part
put-below : (at w i : ℕ) (xs ys : List ℕ) → i < at → at ≤ length xs → get_or (put_mid at w xs ys) i 0 ≡ get_or xs i 0
put-below at w i xs ys h l =
    let e = length-take-le at xs l in
    get_or_append_left (take at xs) (ys ++ post_of at w xs) 0 i (omega arith) ∙ get_or-take at xs i 0 h

put-past : (at w i : ℕ) (xs ys : List ℕ) → at ≤ i → at ≤ length xs → get_or (put_mid at w xs ys) i 0 ≡ get_or (ys ++ post_of at w xs) (i - at) 0
put-past at w i xs ys h l = get_or-append_right (take at xs) (ys ++ post_of at w xs) at i 0 (length-take-le at xs l) h

put-within : (at w i : ℕ) (xs ys : List ℕ) → i < length ys → at ≤ length xs → get_or (put_mid at w xs ys) (at + i) 0 ≡ get_or ys i 0
put-within at w i xs ys h l =
    put-past at w (at + i) xs ys (omega arith) l
    ∙ ap (λ j. get_or (ys ++ post_of at w xs) j 0) (let e : at + i - at ≡ i = omega arith in e)
    ∙ get_or_append_left ys (post_of at w xs) 0 i h

put-above : (at w i : ℕ) (xs ys : List ℕ) → at + w ≤ i → length ys ≡ w → at ≤ length xs → get_or (put_mid at w xs ys) i 0 ≡ get_or xs i 0
put-above at w i xs ys h e l =
    put-past at w i xs ys (omega arith) l
    ∙ get_or-append_right ys (post_of at w xs) w (i - at) 0 e (omega arith)
    ∙ get_or-drop w (drop at xs) (i - at - w) 0
    ∙ get_or-drop at xs (w + (i - at - w)) 0
    ∙ ap (λ j. get_or xs j 0) (let e : at + (w + (i - at - w)) ≡ i = omega arith in e)

-- column k written
pub book-written : (n l k : ℕ) (v xs : List ℕ) → k < l → l * bytes_for n ≤ length xs
    → Written true n l k v xs (put_mid (k * bytes_for n) (bytes_for n) xs (pack n (bits_of v)))
unfolding of_rows bits_of
book-written n l k v xs hk room =
    let w = bytes_for n in
    let ys = pack n (bits_of v) in
    let long : length ys ≡ w = length-pack n (bits_of v) in
    let fits : k * w + w ≤ length xs = omega (arith, suc-mul k w, mul-le-mul_right w hk) in
    record {
      long =
          omega (
            arith,
            length-append (take (k * w) xs) (ys ++ post_of (k * w) w xs),
            length-append ys (post_of (k * w) w xs),
            length-take-le (k * w) xs (omega arith),
            length-drop w (drop (k * w) xs),
            length-drop (k * w) xs,
          );
      bits = λ a b la lb. elim (cases_eq a k) [
        | inl e ↦
            ap (λ x. bit_of (get_or (put_mid (k * w) w xs ys) (x * w + b / 8) 0) (b % 8)) e
            ∙ ap (λ x. bit_of x (b % 8)) (put-within (k * w) w (b / 8) xs ys (omega arith) (omega arith))
            ∙ bits-pack n (bits_of v) b
            ∙ sym (cond-true (eqb a k) _ _ (eq-eqb a k e))
        | inr ne ↦
            ap (λ x. bit_of x (b % 8)) (elim (cases_lt a k) [
              | inl h ↦ put-below (k * w) w (a * w + b / 8) xs ys (omega (arith, suc-mul a w, mul-le-mul_right w h)) (omega arith)
              | inr h ↦
                  let past : k < a = omega arith in
                  put-above (k * w) w (a * w + b / 8) xs ys (omega (arith, suc-mul k w, mul-le-mul_right w past)) long (omega arith)
            ])
            ∙ sym (cond-false (eqb a k) _ _ (ne_eqb a k ne))
      ];
    }

-- column k read
pub book-column : (n k : ℕ) (xs : List ℕ) → pack n (bits_of (take (bytes_for n) (drop (k * bytes_for n) xs))) ≡ pack n (λ i. book_matrix n xs i k)
unfolding of_rows bits_of
book-column n k xs =
    pack-cong n _ _ (λ i h.
    ap (λ x. bit_of x (i % 8))
    (get_or-take (bytes_for n) (drop (k * bytes_for n) xs) (i / 8) 0 (omega arith) ∙ get_or-drop (k * bytes_for n) xs (i / 8) 0))

-- a vector copied, its pad bits cleared
pub cleaned : (n : ℕ) (v copy ys : List ℕ) → copy ≡ v → length v ≡ bytes_for n → ys ≡ cond (eqb (length copy) (bytes_for n)) (pack n (bits_of copy)) copy
    → ys ≡ pack n (bits_of v)
cleaned n v copy ys same long is =
    is ∙ cond-true (eqb (length copy) (bytes_for n)) _ _ (eq-eqb (length copy) (bytes_for n) (ap length same ∙ long)) ∙ ap (λ xs. pack n (bits_of xs)) same

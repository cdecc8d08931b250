-- Lists of packed columns. Assumes nothing.
use Rattle.std.proofs.Common.{◌≡◌, ℕ, ◌+◌, ◌<◌, List, [], ◌∷◌, ◌++◌, length, get_or, sym, ◌∙◌, ap₂, arith}
use Rattle.std.proofs.lemmas.List.FromFn.{length-map-range_with_len, get_or-map-range_with_len, map-range_with_len_more, fill_by_all}
use Rattle.matrix.specs.Matrix.{Mat}
use Rattle.bits.specs.Bits.{bits_of, pack}
use Rattle.bits.specs.Columns.{columns_of}
use Rattle.bits.proofs.Packs.{pack-cong}

pub length-columns : (n k : ℕ) (e : Mat) → length (columns_of n k e) ≡ k
unfolding columns_of
length-columns n k e = length-map-range_with_len (λ j. pack n (λ i. e i j)) 0 k

pub get_or-columns : (n k : ℕ) (e : Mat) (j : ℕ) → j < k → get_or (columns_of n k e) j [] ≡ pack n (λ i. e i j)
unfolding columns_of
get_or-columns n k e j h = get_or-map-range_with_len (λ j. pack n (λ i. e i j)) 0 k j j [] h (omega arith)

pub columns-more : (n k : ℕ) (e e' : Mat) (v : List ℕ) → ((i j : ℕ) → i < n → j < k → e' i j ≡ e i j) → ((i : ℕ) → i < n → e' i k ≡ bits_of v i)
    → columns_of n (k + 1) e' ≡ columns_of n k e ++ pack n (bits_of v) ∷ []
unfolding columns_of
columns-more n k e e' v same new =
    let old : columns_of n k e ≡ columns_of n k e' =
    fill_by_all (λ j. pack n (λ i. e' i j)) (columns_of n k e) k [] (length-columns n k e)
    (λ j l. get_or-columns n k e j l ∙ pack-cong n (λ i. e i j) (λ i. e' i j) (λ i h. sym (same i j h l))) in
    map-range_with_len_more (λ j. pack n (λ i. e' i j)) 0 k k (omega arith)
    ∙ ap₂ (λ a b. a ++ b ∷ []) (sym old) (pack-cong n (λ i. e' i k) (bits_of v) new)

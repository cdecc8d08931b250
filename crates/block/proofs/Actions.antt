-- What words of the check matrix make of a vector: its rows and its columns. Assumes nothing.
use Rattle.std.proofs.Common.{◌≡◌, ℕ, ◌+◌, ◌*◌, ◌/◌, ◌%◌, ◌^◌, ◌<◌, ◌≤◌, true, List, get_or, sym, refl, ap, ◌∙◌, ap₂, mul_comm, arith}
use lib.Bits.{bit_and, and_le_l}
use Rattle.std.proofs.lemmas.Nat.{div-mul-add, mod-mul-add, div_below, mod_below, div-add-mod'}
use Rattle.galois.specs.Bit.{both, bits}
use Rattle.galois.specs.Gf.{inverse_of}
use Rattle.matrix.specs.Matrix.{sum, apply, apply_row}
use Rattle.matrix.proofs.Sums.{sum-cong, sum-swap}
use Rattle.bits.specs.Bits.{bit_of, bits_of, pack}
use Rattle.bits.proofs.Packs.{low_bit, bits-lt, sum_lt, pack-cong}
use Rattle.bits.proofs.Bytes.{bit-and, bit-scaled, sum-bit, sum-blocks, sum-rest}
use Rattle.params.specs.Known.{known}
use Rattle.goppa.specs.Checks.{value, ratio, checks}
use Rattle.block.specs.Lanes.{stacked, word_of, parity_of, crossed}
use Rattle.block.proofs.Shares.{scaled-share}
use Rattle.block.proofs.Words.{bit_high, word_lt}

bit-of : (x k : ℕ) → bit_of x k ≡ x / 2 ^ k % 2
unfolding bit_of
bit-of x k = refl

-- row r of a column, by its word and its bit
check-bit : (m f t : ℕ) (g a : ℕ → ℕ) (r j : ℕ) → checks m f t g a r j ≡ bit_of (ratio m f t g (a j) (r / m)) (r % m)
unfolding checks
check-bit m f t g a r j = sym (bit-of (ratio m f t g (a j) (r / m)) (r % m))

-- the parity of the words against words w
odd-crossed : (m t : ℕ) (w s : ℕ → ℕ) → m ≤ 16 → ((i : ℕ) → i < t → w i < 2 ^ m)
    → parity_of (sum t (λ i. bit_and (w i) (s i))) ≡ sum (m * t) (λ r. both (bit_of (w (r / m)) (r % m)) (bit_of (s (r / m)) (r % m)))
unfolding parity_of
odd-crossed m t w s h small =
    let x = sum t (λ i. bit_and (w i) (s i)) in
    let lt : x < 2 ^ m = sum_lt m t (λ i. bit_and (w i) (s i)) (λ i l. let p = small i l in let q = and_le_l (w i) (s i) in omega arith) in
    sum-rest m 16 (bit_of x) h (λ k l _. bit_high m x k lt l)
    ∙ sum-cong m _ _ (λ b l. sum-bit t b (λ i. bit_and (w i) (s i)))
    ∙ sum-swap m t (λ b i. bit_of (bit_and (w i) (s i)) b)
    ∙ sum-cong t _ _ (λ i l. sum-cong m _ _ (λ b k.
    bit-and (w i) (s i) b
    ∙ ap₂ (λ q r. both (bit_of (w q) r) (bit_of (s q) r)) (sym (div-mul-add i m b k)) (sym (mod-mul-add i m b k))))
    ∙ sym (sum-blocks t m (λ r. both (bit_of (w (r / m)) (r % m)) (bit_of (s (r / m)) (r % m))))
    ∙ ap (λ n. sum n (λ r. both (bit_of (w (r / m)) (r % m)) (bit_of (s (r / m)) (r % m)))) (mul_comm t m)

-- bit r of a vector, by its word
word-bit : (m : ℕ) (v : List ℕ) (r : ℕ) → 0 < m → bit_of (word_of m v (r / m)) (r % m) ≡ bits_of v r
word-bit m v r pos =
    low_bit m (r % m) (λ b. bits_of v (r / m * m + b)) (λ b. bits-lt v (r / m * m + b)) (omega (arith, mod_below r m pos))
    ∙ ap (bits_of v) (div-add-mod' r m)

-- an entry of v times the check block, by words
pub crossed-row : (m f t : ℕ) (g a : ℕ → ℕ) (v words : List ℕ) (y j : ℕ) → 0 < m → m ≤ 13 → known m f ≡ true
    → ((i : ℕ) → i < t → get_or words i 0 ≡ word_of m v i) → y ≡ inverse_of m f (value m f t g (a j))
    → parity_of (crossed m f t words (a j) y) ≡ apply_row bits (m * t) (checks m f t g a) (bits_of v) j
unfolding crossed apply_row
crossed-row m f t g a v words y j pos h k hw hy =
    ap parity_of (sum-cong t _ _ (λ i l. ap₂ bit_and (hw i l) (scaled-share m f t g (a j) y i k hy)))
    ∙ odd-crossed m t (word_of m v) (ratio m f t g (a j)) (omega arith) (λ i l. word_lt v (i * m) m)
    ∙ sum-cong (m * t) _ _ (λ r l. ap₂ both (word-bit m v r pos) (sym (check-bit m f t g a r j)))

-- the sum of the columns that v chooses, by words
pub stacked-sum : (m f t : ℕ) (g a : ℕ → ℕ) (v words : List ℕ) → 0 < m
    → ((i : ℕ) → i < t → get_or words i 0 ≡ sum (m * t) (λ j. bits_of v j * ratio m f t g (a j) i))
    → pack (m * t) (stacked m words) ≡ pack (m * t) (apply bits (m * t) (checks m f t g a) (bits_of v))
unfolding apply
stacked-sum m f t g a v words pos h =
    pack-cong (m * t) _ _ (λ r l.
    ap (λ x. bit_of x (r % m)) (h (r / m) (div_below r m t pos (omega (arith, mul_comm m t))))
    ∙ sum-bit (m * t) (r % m) (λ j. bits_of v j * ratio m f t g (a j) (r / m))
    ∙ sum-cong (m * t) _ _ (λ j _.
    bit-scaled (bits_of v j) (ratio m f t g (a j) (r / m)) (r % m) (bits-lt v j)
    ∙ bits.mul_comm (bits_of v j) (bit_of (ratio m f t g (a j) (r / m)) (r % m))
    ∙ ap (λ x. both x (bits_of v j)) (sym (check-bit m f t g a r j))))

-- one column, by words
pub stacked-column : (m f t : ℕ) (g a : ℕ → ℕ) (words : List ℕ) (j : ℕ) → 0 < m
    → ((i : ℕ) → i < t → get_or words i 0 ≡ ratio m f t g (a j) i)
    → pack (m * t) (stacked m words) ≡ pack (m * t) (λ r. checks m f t g a r j)
stacked-column m f t g a words j pos h =
    pack-cong (m * t) _ _ (λ r l.
    ap (λ x. bit_of x (r % m)) (h (r / m) (div_below r m t pos (omega (arith, mul_comm m t))))
    ∙ sym (check-bit m f t g a r j))

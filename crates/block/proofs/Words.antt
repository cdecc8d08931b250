-- Vectors as words, and words as vectors. Assumes nothing.
use Rattle.std.proofs.Common.{◌≡◌, ℕ, suc, ◌+◌, ◌-◌, ◌*◌, ◌/◌, ◌%◌, ◌^◌, ◌<◌, ◌≤◌, min, cond, List, ◌++◌, length, get_or, take, sym, refl, ap, ◌∙◌, ap₂, inl, inr, add-zero, add-one, arith, pow_mono, shr-shr}
use native.Mathlib.Nat.{div-eq_of_lt}
use lib.Bits.{bit_xor, bit_and}
use borrow.Rule.Slice.PartMut.{put_mid, post_of}
use Rattle.std.proofs.lemmas.List.{length-take-le, get_or-take, get_or_append_left, get_or-append_right}
use Rattle.std.proofs.lemmas.Bool.{cases_lt, lt-ltb}
use Rattle.galois.specs.Gf.{times}
use Rattle.matrix.specs.Matrix.{sum}
use Rattle.matrix.proofs.Sums.{sum-cong, sum-zero}
use Rattle.bits.specs.Bits.{bit_of, bits_of, low, pad_bit, byte_at, bytes_for}
use Rattle.bits.proofs.Packs.{low-cong, low-lt, bits-lt, bit-lt, bit-zero, sum_lt, pad-out}
use Rattle.bits.proofs.Bytes.{sum-mod-bits, sum-add}
use Rattle.block.specs.Lanes.{scaled, parity_of, crossed}

high_bit : (x k : ℕ) → bit_of (x / 256) k ≡ bit_of x (8 + k)
unfolding bit_of
high_bit x k = ap (λ y. y % 2) (shr-shr x 8 k)

-- the parity of a word by its two bytes
pub odd-halves : (x : ℕ) → bit_xor (sum 8 (bit_of (x % 256))) (sum 8 (bit_of (x / 256))) ≡ parity_of x
unfolding parity_of
odd-halves x = ap₂ bit_xor (sum-mod-bits x 8 (omega arith)) (sum-cong 8 _ _ (λ k h. high_bit x k)) ∙ sym (sum-add 8 8 (bit_of x))

pub odd-lt : (x : ℕ) → parity_of x < 2
unfolding parity_of
odd-lt x = sum_lt 1 16 (bit_of x) (λ k h. bit-lt x k)

pub odd-zero : parity_of 0 ≡ 0
unfolding parity_of
odd-zero = sum-zero 16 (bit_of 0) (λ k h. bit-zero k)

-- no bits past the width
pub bit_high : (m x k : ℕ) → x < 2 ^ m → m ≤ k → bit_of x k ≡ 0
unfolding bit_of
bit_high m x k h l = let p = pow_mono l in ap (λ y. y % 2) (div-eq_of_lt (let q : x < 2 ^ k = omega arith in q))

pub word_lt : (v : List ℕ) (at d : ℕ) → low d (λ k. bits_of v (at + k)) < 2 ^ d
word_lt v at d = low-lt d (λ k. bits_of v (at + k)) (λ k. bits-lt v (at + k))

-- one bit more, below the others
pub word_more : (v : List ℕ) (at d : ℕ) → 2 * low d (λ k. bits_of v (at + 1 + k)) + bits_of v at ≡ low (suc d) (λ k. bits_of v (at + k))
word_more v at d =
    let first : bits_of v (at + 0) ≡ bits_of v at = ap (bits_of v) (add-zero at) in
    let rest : low d (λ k. bits_of v (at + 1 + k)) ≡ low d (λ k. bits_of v (at + suc k)) =
    low-cong d (λ k. bits_of v (at + 1 + k)) (λ k. bits_of v (at + suc k)) (λ k h. ap (bits_of v) (let e : at + 1 + k ≡ at + suc k = omega arith in e)) in
    omega arith

pub crossed-none : (m f : ℕ) (words : List ℕ) (x y : ℕ) → 0 ≡ crossed m f 0 words x y
unfolding crossed sum
crossed-none m f words x y = refl

pub crossed-more : (m f i : ℕ) (words : List ℕ) (x y s p : ℕ) → s ≡ crossed m f i words x y → p ≡ scaled m f x y i
    → bit_xor s (bit_and (get_or words i 0) p) ≡ crossed m f (i + 1) words x y
unfolding crossed sum
crossed-more m f i words x y s p hs hp =
    ap₂ (λ a b. bit_xor a (bit_and (get_or words i 0) b)) hs hp ∙ ap (λ n. sum n (λ k. bit_and (get_or words k 0) (scaled m f x y k))) (sym (add-one i))

pub scaled-none : (m f x y : ℕ) → y ≡ scaled m f x y 0
unfolding scaled
scaled-none m f x y = refl

pub scaled-more : (m f x y i p : ℕ) → p ≡ scaled m f x y i → times m f x p ≡ scaled m f x y (i + 1)
unfolding scaled
scaled-more m f x y i p h = ap (times m f x) h ∙ ap (scaled m f x y) (sym (add-one i))

-- a byte of a part of a vector is a byte of the vector
pub part-byte : (n at first count j : ℕ) (f : ℕ → ℕ) → at ≡ 8 * first → count ≡ min (n - at) 32 → j < bytes_for count
    → byte_at count (λ k. f (at + k)) j ≡ byte_at n f (first + j)
unfolding byte_at
part-byte n at first count j f ea ec h =
    low-cong 8 (λ b. pad_bit count (λ k. f (at + k)) (8 * j + b)) (λ b. pad_bit n f (8 * (first + j) + b)) (λ b l.
    let place : at + (8 * j + b) ≡ 8 * (first + j) + b = omega arith in
    elim (cases_lt (8 * j + b) count) [
      | inl k ↦
          ap₂ (λ c x. cond c (f x % 2) 0)
          (lt-ltb (8 * j + b) count k ∙ sym (lt-ltb (8 * (first + j) + b) n (omega arith)))
          place
      | inr k ↦ pad-out count (λ k. f (at + k)) (8 * j + b) k ∙ sym (pad-out n f (8 * (first + j) + b) (omega arith))
    ])

-- a byte after a write to a part
pub put-below : (a k i : ℕ) (xs ys : List ℕ) → i < a → a ≤ length xs → get_or (put_mid a k xs ys) i 0 ≡ get_or xs i 0
put-below a k i xs ys h l =
    let e = length-take-le a xs l in
    get_or_append_left (take a xs) (ys ++ post_of a k xs) 0 i (omega arith) ∙ get_or-take a xs i 0 h

pub put-within : (a k i : ℕ) (xs ys : List ℕ) → a ≤ i → i < a + length ys → a ≤ length xs → get_or (put_mid a k xs ys) i 0 ≡ get_or ys (i - a) 0
put-within a k i xs ys h l room =
    get_or-append_right (take a xs) (ys ++ post_of a k xs) a i 0 (length-take-le a xs room) h
    ∙ get_or_append_left ys (post_of a k xs) 0 (i - a) (omega arith)

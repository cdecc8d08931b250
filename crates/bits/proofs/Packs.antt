-- A vector comes back from its bytes. Assumes nothing.
use Rattle.std.proofs.Common.{◌≡◌, ℕ, zero, suc, ◌+◌, ◌-◌, ◌*◌, ◌/◌, ◌%◌, ◌^◌, ◌<◌, ◌≤◌, true, false, cond, ltb, List, map, length, get_or, sym, refl, ap, ◌∙◌, ap₂, inl, inr, pow-suc, div-one, add-one, one-add, arith, pow_pos, pow_mono, shr-shr}
use native.Mathlib.Nat.{div-add-mod, mod-one, zero-div}
use lib.Pow.{mod-pow-add}
use lib.Bits.{xor_lt}
use Rattle.std.specs.List.{range_with_len}
use Rattle.std.proofs.lemmas.Bool.{cases_lt, cond-true, cond-false, lt-ltb, le-ltb}
use Rattle.std.proofs.lemmas.List.FromFn.{length-map-range_with_len, get_or-map-range_with_len, fill_by_all}
use Rattle.std.proofs.lemmas.List.{get_or_past}
use Rattle.galois.specs.Arith.{Arith}
use Rattle.matrix.specs.Matrix.{Mat, sum, times, apply, apply_row}
use Rattle.galois.specs.Bit.{bits}
use Rattle.bits.specs.Bits.{bytes_for, bit_of, bits_of, low, pad_bit, byte_at, pack}
use Rattle.matrix.proofs.Sums.{sum-cong, row-assoc}

pub funext : {A B : Type 0} {f g : A → B} → ((x : A) → f x ≡ g x) → f ≡ g
funext h = λ i x. h x i

pub sum_lt : (w n : ℕ) (f : ℕ → ℕ) → ((k : ℕ) → k < n → f k < 2 ^ w) → sum n f < 2 ^ w
unfolding sum
sum_lt w zero f h = pow_pos w
sum_lt w (suc n) f h = xor_lt w (sum n f) (f n) (sum_lt w n f (λ k l. h k (omega arith))) (h n (omega arith))

module _ (F : Arith) (n : ℕ) where
  pub apply-lt : (M : Mat) (v : ℕ → ℕ) (i : ℕ) → apply F n M v i < 2 ^ F.width
  unfolding apply
  apply-lt M v i = sum_lt F.width n (λ k. F.mul (M i k) (v k)) (λ k l. F.mul-lt (M i k) (v k))

  pub apply_row-lt : (M : Mat) (v : ℕ → ℕ) (j : ℕ) → apply_row F n M v j < 2 ^ F.width
  unfolding apply_row
  apply_row-lt M v j = sum_lt F.width n (λ k. F.mul (v k) (M k j)) (λ k l. F.mul-lt (v k) (M k j))

  pub apply-cong : (M : Mat) (v w : ℕ → ℕ) (i : ℕ) → ((k : ℕ) → k < n → v k ≡ w k) → apply F n M v i ≡ apply F n M w i
  unfolding apply
  apply-cong M v w i h = sum-cong n _ _ (λ k l. ap (F.mul (M i k)) (h k l))

  pub apply_row-cong : (M : Mat) (v w : ℕ → ℕ) (j : ℕ) → ((k : ℕ) → k < n → v k ≡ w k) → apply_row F n M v j ≡ apply_row F n M w j
  unfolding apply_row
  apply_row-cong M v w j h = sum-cong n _ _ (λ k l. ap (λ x. F.mul x (M k j)) (h k l))

  -- (A B) v = A (B v), and v (A B) = (v A) B
  pub apply-times : (A B : Mat) (v : ℕ → ℕ) (i : ℕ) → apply F n (times F n A B) v i ≡ apply F n A (apply F n B v) i
  unfolding apply times
  apply-times A B v i = row-assoc F n (A i) B v

  pub apply_row-times : (A B : Mat) (v : ℕ → ℕ) (j : ℕ) → apply_row F n (times F n A B) v j ≡ apply_row F n B (apply_row F n A v) j
  unfolding apply_row times
  apply_row-times A B v j = sym (row-assoc F n v A (λ k. B k j))

pub length-pack : (n : ℕ) (f : ℕ → ℕ) → length (pack n f) ≡ bytes_for n
unfolding pack
length-pack n f = length-map-range_with_len (byte_at n f) 0 (bytes_for n)

pub get_or-pack : (n : ℕ) (f : ℕ → ℕ) (j : ℕ) → j < bytes_for n → get_or (pack n f) j 0 ≡ byte_at n f j
unfolding pack
get_or-pack n f j h = get_or-map-range_with_len (byte_at n f) 0 (bytes_for n) j j 0 h (omega arith)

pub pack-from-bytes : (n : ℕ) (f : ℕ → ℕ) (xs : List ℕ) → length xs ≡ bytes_for n → ((j : ℕ) → j < bytes_for n → get_or xs j 0 ≡ byte_at n f j) → xs ≡ pack n f
unfolding pack
pack-from-bytes n f xs e h = fill_by_all (byte_at n f) xs (bytes_for n) 0 e h

pub low-cong : (m : ℕ) (f g : ℕ → ℕ) → ((i : ℕ) → i < m → f i ≡ g i) → low m f ≡ low m g
low-cong zero f g h = refl
low-cong (suc m) f g h = ap₂ (λ x y. x + 2 * y) (h 0 (omega arith)) (low-cong m (λ i. f (suc i)) (λ i. g (suc i)) (λ i l. h (suc i) (omega arith)))

pub low-lt : (m : ℕ) (g : ℕ → ℕ) → ((i : ℕ) → g i < 2) → low m g < 2 ^ m
low-lt zero g h = omega arith
low-lt (suc m) g h = let a = h 0 in let b = low-lt m (λ i. g (suc i)) (λ i. h (suc i)) in omega (arith, pow-suc 2 m)

pub low-below : (m w : ℕ) (g : ℕ → ℕ) → ((i : ℕ) → g i < 2) → m ≤ w → low m g < 2 ^ w
low-below m w g h le = let a = low-lt m g h in let b : 2 ^ m ≤ 2 ^ w = pow_mono le in omega arith

-- one digit more, before the m - k that there are
pub low-more : (m k at : ℕ) (f : ℕ → ℕ) (x d : ℕ) → 0 < k → k ≤ m → x ≡ low (m - k) (λ i. f (at + k + i)) → d ≡ f (at + (k - 1))
    → 2 * x + d ≡ low (m - (k - 1)) (λ i. f (at + (k - 1) + i))
low-more m k at f x d pos le h digit =
    let e : suc (m - k) ≡ m - (k - 1) = omega arith in
    let first : f (at + (k - 1)) ≡ f (at + (k - 1) + 0) = ap f (omega arith) in
    let more : low (m - k) (λ i. f (at + k + i)) ≡ low (m - k) (λ i. f (at + (k - 1) + suc i)) = low-cong (m - k) _ _ (λ i l. ap f (omega arith)) in
    let step : 2 * x + d ≡ f (at + (k - 1) + 0) + 2 * low (m - k) (λ i. f (at + (k - 1) + suc i)) = omega arith in
    step ∙ ap (λ r. low r (λ i. f (at + (k - 1) + i))) e

-- bit j of the number with the digits g
pub low_bit : (m j : ℕ) (g : ℕ → ℕ) → ((i : ℕ) → g i < 2) → j < m → bit_of (low m g) j ≡ g j
unfolding bit_of
low_bit zero j g s h = absurd (omega arith)
low_bit (suc m) zero g s h = let a = s 0 in omega arith
low_bit (suc m) (suc j) g s h =
    let a = s 0 in
    let half : (g 0 + 2 * low m (λ i. g (suc i))) / 2 ≡ low m (λ i. g (suc i)) = omega arith in
    let split : low (suc m) g / 2 / 2 ^ j ≡ low (suc m) g / 2 ^ suc j = shr-shr (low (suc m) g) 1 j ∙ ap (λ e. low (suc m) g / 2 ^ e) (one-add j) in
    ap (λ x. x % 2) (sym split ∙ ap (λ x. x / 2 ^ j) half) ∙ low_bit m j (λ i. g (suc i)) (λ i. s (suc i)) (omega arith)

low-zero : (m : ℕ) (g : ℕ → ℕ) → ((i : ℕ) → g i ≡ 0) → low m g ≡ 0
low-zero zero g h = refl
low-zero (suc m) g h = let a = h 0 in let b = low-zero m (λ i. g (suc i)) (λ i. h (suc i)) in omega arith

suc-ltb : (i r : ℕ) → ltb (suc i) (suc r) ≡ ltb i r
suc-ltb i r = elim (cases_lt i r) [
  | inl l ↦ lt-ltb (suc i) (suc r) (omega arith) ∙ sym (lt-ltb i r l)
  | inr l ↦ le-ltb (suc i) (suc r) (omega arith) ∙ sym (le-ltb i r l)
]

-- the low r bits of x
pub low-mod : (m r x : ℕ) → r ≤ m → low m (λ b. cond (ltb b r) (bit_of x b) 0) ≡ x % 2 ^ r
unfolding bit_of
low-mod zero zero x h = sym (mod-one x)
low-mod zero (suc r) x h = absurd (omega arith)
low-mod (suc m) zero x h = low-zero (suc m) (λ i. cond (ltb i 0) (bit_of x i) 0) (λ i. cond-false (ltb i 0) (bit_of x i) 0 (le-ltb i 0 (omega arith))) ∙ sym (mod-one x)
low-mod (suc m) (suc r) x h =
    let rest : low m (λ i. cond (ltb (suc i) (suc r)) (x / 2 ^ suc i % 2) 0) ≡ x / 2 % 2 ^ r =
    low-cong m (λ i. cond (ltb (suc i) (suc r)) (x / 2 ^ suc i % 2) 0) (λ i. cond (ltb i r) (x / 2 / 2 ^ i % 2) 0)
    (λ i l. ap₂ (λ t y. cond t (y % 2) 0) (suc-ltb i r) (sym (shr-shr x 1 i ∙ ap (λ e. x / 2 ^ e) (one-add i))))
    ∙ low-mod m r (x / 2) (omega arith) in
    let whole : x % 2 ^ suc r ≡ x / 2 % 2 ^ r * 2 + x % 2 = ap (λ e. x % 2 ^ e) (sym (add-one r)) ∙ mod-pow-add x r 1 in
    let first : cond (ltb 0 (suc r)) (x / 2 ^ 0 % 2) 0 ≡ x % 2 = cond-true (ltb 0 (suc r)) _ _ (lt-ltb 0 (suc r) (omega arith)) ∙ ap (λ y. y % 2) (div-one x) in
    omega arith

pub pad-lt : (n : ℕ) (f : ℕ → ℕ) (i : ℕ) → pad_bit n f i < 2
pad-lt n f i = elim (ltb i n) as (λ b. cond b (f i % 2) 0 < 2) [ true ↦ omega arith | false ↦ omega arith ]

-- fewer than eight bits of a vector
pub few-lt : (n : ℕ) (f : ℕ → ℕ) (at k x : ℕ) → 0 < k → x ≡ low (8 - k) (λ i. pad_bit n f (at + i)) → x < 128
few-lt n f at k x h e = let l = low-below (8 - k) 7 (λ i. pad_bit n f (at + i)) (λ i. pad-lt n f (at + i)) (omega arith) in omega arith

pub pad-in : (n : ℕ) (f : ℕ → ℕ) (i : ℕ) → i < n → pad_bit n f i ≡ f i % 2
pad-in n f i h = cond-true (ltb i n) _ _ (lt-ltb i n h)

pub pad-out : (n : ℕ) (f : ℕ → ℕ) (i : ℕ) → n ≤ i → pad_bit n f i ≡ 0
pad-out n f i h = cond-false (ltb i n) _ _ (le-ltb i n h)

pub bit-zero : (k : ℕ) → bit_of 0 k ≡ 0
unfolding bit_of
bit-zero k = ap (λ x. x % 2) (zero-div (2 ^ k))

pub bit-lt : (x k : ℕ) → bit_of x k < 2
unfolding bit_of
bit-lt x k = omega arith

pub bits-lt : (xs : List ℕ) (k : ℕ) → bits_of xs k < 2
unfolding bits_of
bits-lt xs k = bit-lt (get_or xs (k / 8) 0) (k % 8)

-- bit k of the bytes of f, at every k
pub bits-pack : (n : ℕ) (f : ℕ → ℕ) (k : ℕ) → bits_of (pack n f) k ≡ pad_bit n f k
unfolding bits_of byte_at
bits-pack n f k =
    elim (cases_lt (k / 8) (bytes_for n)) [
      | inl q ↦
          ap (λ x. bit_of x (k % 8)) (get_or-pack n f (k / 8) q)
          ∙ low_bit 8 (k % 8) (λ b. pad_bit n f (8 * (k / 8) + b)) (λ i. pad-lt n f (8 * (k / 8) + i)) (omega arith)
          ∙ ap (pad_bit n f) (div-add-mod k 8)
      | inr q ↦
          ap (λ x. bit_of x (k % 8)) (get_or_past (pack n f) (k / 8) 0 (let e = length-pack n f in omega arith))
          ∙ bit-zero (k % 8) ∙ sym (pad-out n f k (omega arith))
    ]

pub bits-pack-in : (n : ℕ) (f : ℕ → ℕ) (k : ℕ) → k < n → f k < 2 → bits_of (pack n f) k ≡ f k
bits-pack-in n f k h s = bits-pack n f k ∙ pad-in n f k h ∙ omega arith

pub pack-pads : (n : ℕ) (f g : ℕ → ℕ) → ((k : ℕ) → pad_bit n f k ≡ pad_bit n g k) → pack n f ≡ pack n g
unfolding pack byte_at
pack-pads n f g h = ap (λ (p : ℕ → ℕ). map (λ (j : ℕ). low 8 (λ b. p (8 * j + b))) (range_with_len 0 (bytes_for n))) (funext h)

pub pack-cong : (n : ℕ) (f g : ℕ → ℕ) → ((k : ℕ) → k < n → f k ≡ g k) → pack n f ≡ pack n g
pack-cong n f g h =
    pack-pads n f g (λ k. elim (cases_lt k n) [
      | inl l ↦ ap (λ x. cond (ltb k n) (x % 2) 0) (h k l)
      | inr l ↦ pad-out n f k l ∙ sym (pad-out n g k l)
    ])

-- the bytes of A (B x) by way of the bytes of B x
pub pack-times : (n : ℕ) (A B : Mat) (x : ℕ → ℕ) → pack n (apply bits n A (bits_of (pack n (apply bits n B x)))) ≡ pack n (apply bits n (times bits n A B) x)
pack-times n A B x =
    pack-cong n _ _ (λ i h. apply-cong bits n A _ _ i (λ k l. bits-pack-in n (apply bits n B x) k l (apply-lt bits n B x k)) ∙ sym (apply-times bits n A B x i))

pub pack-times_row : (n : ℕ) (A B : Mat) (x : ℕ → ℕ) → pack n (apply_row bits n B (bits_of (pack n (apply_row bits n A x)))) ≡ pack n (apply_row bits n (times bits n A B) x)
pack-times_row n A B x =
    pack-cong n _ _ (λ i h. apply_row-cong bits n B _ _ i (λ k l. bits-pack-in n (apply_row bits n A x) k l (apply_row-lt bits n A x k)) ∙ sym (apply_row-times bits n A B x i))

-- Sums of bits, eight at a time. Assumes nothing.
use Rattle.std.proofs.Common.{◌≡◌, ℕ, zero, suc, ◌+◌, ◌-◌, ◌*◌, ◌/◌, ◌%◌, ◌^◌, ◌<◌, ◌≤◌, min, Bool, true, false, cond, ◌&&◌, eqb, ltb, ◌≢◌, List, [], ◌∷◌, length, get_or, take, drop, fold, set, sym, refl, ap, ◌∙◌, ap₂, inl, inr, add-zero, add-suc, mod-eq_of_lt, suc-mul, one-mul, zero-mul, add-one, arith, length-set, get_or-set_other, get_or-set_same}
use lib.Bits.{bit_xor, bit_and, and_zero_l, and_zero_r, xor_shr, xor_mod, and_shr, and_step, xor_assoc, xor_zero_l, xor_zero_r}
use Rattle.std.specs.List.{zip}
use Rattle.std.proofs.lemmas.List.{get_or_past, get_or-take, get_or-drop, length-take}
use Rattle.std.proofs.lemmas.Nat.{div-mul-add, mod-mul-add}
use Rattle.std.proofs.lemmas.Bool.{cases_lt, cases_eq, eqb-true, and_parts, cond-true, cond-false, lt-ltb, le-ltb}
use Rattle.matrix.specs.Matrix.{sum, apply_row}
use Rattle.galois.specs.Bit.{bits, both}
use Rattle.bits.specs.Bits.{bytes_for, bit_of, bits_of, bits_from, of_rows, pad_bit, byte_at, pack}
use Rattle.matrix.proofs.Sums.{sum-cong, sum-zero, sum-xor, sum-swap}
use Rattle.bits.proofs.Packs.{low_bit, low-mod, low-cong, bit-zero, bit-lt, pack-from-bytes, bits-lt, pack-cong}

pub bit-xor : (a b k : ℕ) → bit_of (bit_xor a b) k ≡ bit_xor (bit_of a k) (bit_of b k)
unfolding bit_of
bit-xor a b k = ap (λ x. x % 2) (xor_shr a b k) ∙ xor_mod (a / 2 ^ k) (b / 2 ^ k) 1

and-odd : (x y : ℕ) → bit_and x y % 2 ≡ min (x % 2) (y % 2)
and-odd x y = omega (arith, and_step x y)

pub bit-and : (a b k : ℕ) → bit_of (bit_and a b) k ≡ both (bit_of a k) (bit_of b k)
unfolding bit_of
bit-and a b k = ap (λ x. x % 2) (and_shr a b k) ∙ and-odd (a / 2 ^ k) (b / 2 ^ k) ∙ omega arith

-- bit k of an exclusive or of many numbers
pub sum-bit : (n k : ℕ) (f : ℕ → ℕ) → bit_of (sum n f) k ≡ sum n (λ j. bit_of (f j) k)
unfolding sum
sum-bit zero k f = bit-zero k
sum-bit (suc n) k f = bit-xor (sum n f) (f n) k ∙ ap (λ x. bit_xor x (bit_of (f n) k)) (sum-bit n k f)

pub sum-add : (m n : ℕ) (f : ℕ → ℕ) → sum (m + n) f ≡ bit_xor (sum m f) (sum n (λ k. f (m + k)))
unfolding sum
sum-add m zero f = ap (λ l. sum l f) (add-zero m) ∙ sym (xor_zero_r (sum m f))
sum-add m (suc n) f =
    ap (λ l. sum l f) (add-suc m n)
    ∙ ap (λ x. bit_xor x (f (m + n))) (sum-add m n f)
    ∙ xor_assoc (sum m f) (sum n (λ k. f (m + k))) (f (m + n))

-- q blocks of w terms
pub sum-blocks : (q w : ℕ) (f : ℕ → ℕ) → sum (q * w) f ≡ sum q (λ j. sum w (λ k. f (j * w + k)))
unfolding sum
sum-blocks zero w f = ap (λ l. sum l f) (zero-mul w)
sum-blocks (suc q) w f =
    ap (λ l. sum l f) (suc-mul q w)
    ∙ sum-add (q * w) w f
    ∙ ap (λ x. bit_xor x (sum w (λ k. f (q * w + k)))) (sum-blocks q w f)

-- a test of every number below n
unfoldable pub every : ℕ → (ℕ → Bool) → Bool
every zero p = true
every (suc n) p = every n p && p n

pub every_true : (n : ℕ) (p : ℕ → Bool) → every n p ≡ true → (k : ℕ) → k < n → p k ≡ true
unfolding every
every_true zero p h k l = absurd (omega arith)
every_true (suc n) p h k l =
    let t = and_parts (every n p) (p n) h in
    elim (cases_eq k n) [ inl e ↦ ap p e ∙ t.1 | inr ne ↦ every_true n p t.0 k (omega arith) ]

-- the parity of a byte, folded in halves
abbrev pub folded : ℕ → ℕ
folded x =
    let a : ℕ = bit_xor x (x / 16) in
    let b : ℕ = bit_xor a (a / 4) in
    bit_and (bit_xor b (b / 2)) 1

parity-test : every 256 (λ x. eqb (folded x) (sum 8 (bit_of x))) ≡ true
unfolding every sum bit_of
parity-test = refl

pub parity-folded : (x : ℕ) → x < 256 → folded x ≡ sum 8 (bit_of x)
parity-folded x h = eqb-true (folded x) (sum 8 (bit_of x)) (every_true 256 (λ x. eqb (folded x) (sum 8 (bit_of x))) parity-test x h)

-- bit k of the low r bits of x
pub mod-bit : (x r k : ℕ) → r ≤ 8 → k < 8 → bit_of (x % 2 ^ r) k ≡ cond (ltb k r) (bit_of x k) 0
mod-bit x r k h l =
    ap (λ y. bit_of y k) (sym (low-mod 8 r x h))
    ∙ low_bit 8 k (λ b. cond (ltb b r) (bit_of x b) 0) (λ i. elim (ltb i r) as (λ t. cond t (bit_of x i) 0 < 2) [ true ↦ bit-lt x i | false ↦ omega arith ]) l

pub sum-mod-bits : (x r : ℕ) → r ≤ 8 → sum 8 (bit_of (x % 2 ^ r)) ≡ sum r (bit_of x)
sum-mod-bits x r h =
    sum-cong 8 _ _ (λ k l. mod-bit x r k h l)
    ∙ ap (λ m. sum m (λ k. cond (ltb k r) (bit_of x k) 0)) (let e : 8 ≡ r + (8 - r) = omega arith in e)
    ∙ sum-add r (8 - r) (λ k. cond (ltb k r) (bit_of x k) 0)
    ∙ ap₂ bit_xor (sum-cong r _ _ (λ k l. cond-true (ltb k r) _ _ (lt-ltb k r l))) (sum-zero (8 - r) _ (λ k l. cond-false (ltb (r + k) r) _ _ (le-ltb (r + k) r (omega arith))))
    ∙ xor_zero_r (sum r (bit_of x))

-- the parity of the exclusive or of q bytes, each the and of two, is the sum of 8 q products of bits
pub dot-bytes : (q : ℕ) (a b : ℕ → ℕ) → sum 8 (bit_of (sum q (λ j. bit_and (a j) (b j)))) ≡ sum (q * 8) (λ i. both (bit_of (a (i / 8)) (i % 8)) (bit_of (b (i / 8)) (i % 8)))
dot-bytes q a b =
    sum-cong 8 _ _ (λ k l. sum-bit q k (λ j. bit_and (a j) (b j)))
    ∙ sum-swap 8 q (λ k j. bit_of (bit_and (a j) (b j)) k)
    ∙ sum-cong q _ _ (λ j h. sum-cong 8 _ _ (λ k l.
    bit-and (a j) (b j) k
    ∙ ap₂ (λ x y. both (bit_of (a x) y) (bit_of (b x) y)) (sym (div-mul-add j 8 k l)) (sym (mod-mul-add j 8 k l))))
    ∙ sym (sum-blocks q 8 (λ i. both (bit_of (a (i / 8)) (i % 8)) (bit_of (b (i / 8)) (i % 8))))

-- the same for n bits: whole bytes, and the low bits of one more
pub dot-bits : (n : ℕ) (a b : ℕ → ℕ) →
    sum 8 (bit_of (bit_xor (sum (n / 8) (λ j. bit_and (a j) (b j))) (bit_and (a (n / 8)) (b (n / 8)) % 2 ^ (n % 8))))
    ≡ sum n (λ i. both (bit_of (a (i / 8)) (i % 8)) (bit_of (b (i / 8)) (i % 8)))
dot-bits n a b =
    let q = n / 8 in
    let r = n % 8 in
    let t : ℕ → ℕ = λ i. both (bit_of (a (i / 8)) (i % 8)) (bit_of (b (i / 8)) (i % 8)) in
    let parts : q * 8 + r ≡ n = omega arith in
    let tail : sum r (bit_of (bit_and (a q) (b q))) ≡ sum r (λ k. t (q * 8 + k)) =
    sum-cong r _ _ (λ k l.
    let k8 : k < 8 = omega arith in
    bit-and (a q) (b q) k
    ∙ ap₂ (λ x y. both (bit_of (a x) y) (bit_of (b x) y)) (sym (div-mul-add q 8 k k8)) (sym (mod-mul-add q 8 k k8))) in
    sum-cong 8 _ _ (λ k l. bit-xor (sum q (λ j. bit_and (a j) (b j))) (bit_and (a q) (b q) % 2 ^ r) k)
    ∙ sum-xor 8 (bit_of (sum q (λ j. bit_and (a j) (b j)))) (bit_of (bit_and (a q) (b q) % 2 ^ r))
    ∙ ap₂ bit_xor (dot-bytes q a b) (sum-mod-bits (bit_and (a q) (b q)) r (omega arith) ∙ tail)
    ∙ sym (sum-add (q * 8) r t)
    ∙ ap (λ m. sum m t) parts

-- a vector's bytes, with the last one cut to the n bits
pub byte-of-bits : (n : ℕ) (xs : List ℕ) (j r : ℕ) → r ≤ 8 → ((b : ℕ) → b < 8 → ltb (8 * j + b) n ≡ ltb b r) → byte_at n (bits_of xs) j ≡ get_or xs j 0 % 2 ^ r
unfolding byte_at bits_of
byte-of-bits n xs j r h e =
    low-cong 8 (λ b. pad_bit n (bits_of xs) (8 * j + b)) (λ b. cond (ltb b r) (bit_of (get_or xs j 0) b) 0) (λ b l.
    let place : j * 8 + b ≡ 8 * j + b = omega arith in
    let d : (8 * j + b) / 8 ≡ j = ap (λ x. x / 8) (sym place) ∙ div-mul-add j 8 b l in
    let m : (8 * j + b) % 8 ≡ b = ap (λ x. x % 8) (sym place) ∙ mod-mul-add j 8 b l in
    let small : bit_of (get_or xs j 0) b % 2 ≡ bit_of (get_or xs j 0) b = let s = bit-lt (get_or xs j 0) b in omega arith in
    ap₂ (λ t x. cond t x 0) (e b l) (ap₂ (λ x y. bit_of (get_or xs x 0) y % 2) d m ∙ small))
    ∙ low-mod 8 r (get_or xs j 0) h

pub byte-whole : (n : ℕ) (xs : List ℕ) (j : ℕ) → 8 * j + 8 ≤ n → get_or xs j 0 < 256 → byte_at n (bits_of xs) j ≡ get_or xs j 0
byte-whole n xs j h s =
    byte-of-bits n xs j 8 (omega arith) (λ b l. lt-ltb (8 * j + b) n (omega arith) ∙ sym (lt-ltb b 8 l)) ∙ mod-eq_of_lt s

pub byte_cut : (n : ℕ) (xs : List ℕ) → byte_at n (bits_of xs) (n / 8) ≡ get_or xs (n / 8) 0 % 2 ^ (n % 8)
byte_cut n xs =
    byte-of-bits n xs (n / 8) (n % 8) (omega arith) (λ b l. elim (cases_lt b (n % 8)) [
      | inl k ↦ lt-ltb (8 * (n / 8) + b) n (omega arith) ∙ sym (lt-ltb b (n % 8) k)
      | inr k ↦ le-ltb (8 * (n / 8) + b) n (omega arith) ∙ sym (le-ltb b (n % 8) k)
    ])

-- what clearing pad bits leaves
pub pads-cleared : (n : ℕ) (xs : List ℕ) → length xs ≡ bytes_for n → ((k : ℕ) → k < length xs → get_or xs k 0 < 256) → n % 8 ≢ 0
    → set xs (n / 8) (get_or xs (n / 8) 0 % 2 ^ (n % 8)) ≡ pack n (bits_of xs)
pads-cleared n xs e s ne =
    let ys : List ℕ = set xs (n / 8) (get_or xs (n / 8) 0 % 2 ^ (n % 8)) in
    let ly : length ys ≡ length xs = length-set xs (n / 8) _ in
    pack-from-bytes n (bits_of xs) ys (ly ∙ e) (λ j l. elim (cases_eq j (n / 8)) [
      | inl p ↦ ap (λ i. get_or ys i 0) p ∙ get_or-set_same xs (n / 8) (get_or xs (n / 8) 0 % 2 ^ (n % 8)) 0 (omega arith) ∙ sym (byte_cut n xs) ∙ ap (byte_at n (bits_of xs)) (sym p)
      | inr p ↦ get_or-set_other xs (n / 8) j (get_or xs (n / 8) 0 % 2 ^ (n % 8)) 0 p ∙ sym (byte-whole n xs j (omega arith) (s j (omega arith)))
    ])

pub pads-none : (n : ℕ) (xs : List ℕ) → length xs ≡ bytes_for n → ((k : ℕ) → k < length xs → get_or xs k 0 < 256) → n % 8 ≡ 0 → xs ≡ pack n (bits_of xs)
pads-none n xs e s z = pack-from-bytes n (bits_of xs) xs e (λ j l. sym (byte-whole n xs j (omega arith) (s j (omega arith))))

bits-place : (xs : List ℕ) (k : ℕ) → bits_of xs k ≡ bit_of (get_or xs (k / 8) 0) (k % 8)
unfolding bits_of
bits-place xs k = refl

-- a bit times a byte
pub bit-scaled : (c x k : ℕ) → c < 2 → bit_of (c * x) k ≡ both c (bit_of x k)
bit-scaled zero x k h = ap (λ y. bit_of y k) (zero-mul x) ∙ bit-zero k ∙ omega arith
bit-scaled (suc zero) x k h = ap (λ y. bit_of y k) (one-mul x) ∙ (let s = bit-lt x k in omega arith)
bit-scaled (suc (suc c)) x k h = absurd (omega arith)

-- the bytes of v M: sums of the rows where v has a 1
pub rows-combined : (n : ℕ) (rows v xs : List ℕ)
    → ((j : ℕ) → j < bytes_for n → get_or xs j 0 ≡ sum n (λ k. bits_of v k * get_or rows (k * bytes_for n + j) 0))
    → pack n (bits_of xs) ≡ pack n (apply_row bits n (of_rows (bytes_for n) rows) (bits_of v))
unfolding apply_row of_rows
rows-combined n rows v xs h =
    pack-cong n _ _ (λ k l. bits-place xs k
    ∙ ap (λ x. bit_of x (k % 8)) (h (k / 8) (omega arith))
    ∙ sum-bit n (k % 8) (λ i. bits_of v i * get_or rows (i * bytes_for n + k / 8) 0)
    ∙ sum-cong n _ _ (λ i li. bit-scaled (bits_of v i) (get_or rows (i * bytes_for n + k / 8) 0) (k % 8) (bits-lt v i)))

-- one row more
pub row-added : (i : ℕ) (f : ℕ → ℕ) (c x y z : ℕ) → f i ≡ c * x → c ≡ 1 → y ≡ sum i f → z ≡ bit_xor y x → z ≡ sum (i + 1) f
unfolding sum
row-added i f c x y z e one h g =
    g ∙ ap₂ bit_xor h (sym (e ∙ ap (λ d. d * x) one ∙ one-mul x)) ∙ ap (λ l. sum l f) (sym (add-one i))

pub row-skipped : (i : ℕ) (f : ℕ → ℕ) (c x y : ℕ) → f i ≡ c * x → c ≡ 0 → y ≡ sum i f → y ≡ sum (i + 1) f
unfolding sum
row-skipped i f c x y e none h =
    h ∙ sym (xor_zero_r (sum i f)) ∙ ap (bit_xor (sum i f)) (sym (e ∙ ap (λ d. d * x) none ∙ zero-mul x)) ∙ ap (λ l. sum l f) (sym (add-one i))

-- terms that are 0 from m on
pub sum-rest : (m n : ℕ) (f : ℕ → ℕ) → m ≤ n → ((k : ℕ) → m ≤ k → k < n → f k ≡ 0) → sum n f ≡ sum m f
sum-rest m n f h z =
    let e : m + (n - m) ≡ n = omega arith in
    ap (λ l. sum l f) (sym e)
    ∙ sum-add m (n - m) f
    ∙ ap (bit_xor (sum m f)) (sum-zero (n - m) _ (λ k l. z (m + k) (omega arith) (omega arith)))
    ∙ xor_zero_r (sum m f)

-- the products of the bits from byte `at` on with the bits of v, by bytes
pub dot-from : (n at : ℕ) (rows v : List ℕ) →
    sum 8 (bit_of (bit_xor (sum (n / 8) (λ j. bit_and (get_or rows (at + j) 0) (get_or v j 0))) (bit_and (get_or rows (at + n / 8) 0) (get_or v (n / 8) 0) % 2 ^ (n % 8))))
    ≡ sum n (λ k. both (bits_from at rows k) (bits_of v k))
unfolding bits_from bits_of
dot-from n at rows v = dot-bits n (λ j. get_or rows (at + j) 0) (λ j. get_or v j 0)

-- byte j of the first n from byte `at` on
pub part-byte : (rows : List ℕ) (at n j : ℕ) → j < n → get_or (take n (drop at rows)) j 0 ≡ get_or rows (at + j) 0
part-byte rows at n j h = get_or-take n (drop at rows) j 0 h ∙ get_or-drop at rows j 0

sum-front : (n : ℕ) (f : ℕ → ℕ) → sum (suc n) f ≡ bit_xor (f 0) (sum n (λ k. f (suc k)))
unfolding sum
sum-front zero f = xor_zero_l (f 0) ∙ sym (xor_zero_r (f 0))
sum-front (suc n) f = ap (λ x. bit_xor x (f (suc n))) (sum-front n f) ∙ xor_assoc (f 0) (sum n (λ k. f (suc k))) (f (suc n))

-- the products of two lists, one beside the other
products-zipped : (xs ys : List ℕ) (s m : ℕ) → length xs ≤ m
    → fold (λ sum p. bit_xor sum (bit_and p.0 p.1)) s (zip xs ys) ≡ bit_xor s (sum m (λ j. bit_and (get_or xs j 0) (get_or ys j 0)))
products-zipped [] ys s m h =
    sym (ap (bit_xor s) (sum-zero m _ (λ j l. ap (λ x. bit_and x (get_or ys j 0)) (get_or_past [] j 0 (omega arith)) ∙ and_zero_l (get_or ys j 0))) ∙ xor_zero_r s)
products-zipped (x ∷ xs) [] s m h =
    sym (ap (bit_xor s) (sum-zero m _ (λ j l. ap (bit_and (get_or (x ∷ xs) j 0)) (get_or_past [] j 0 (omega arith)) ∙ and_zero_r (get_or (x ∷ xs) j 0))) ∙ xor_zero_r s)
products-zipped (x ∷ xs) (y ∷ ys) s zero h = absurd (omega arith)
products-zipped (x ∷ xs) (y ∷ ys) s (suc m) h =
    products-zipped xs ys (bit_xor s (bit_and x y)) m (omega arith)
    ∙ xor_assoc s (bit_and x y) (sum m (λ j. bit_and (get_or xs j 0) (get_or ys j 0)))
    ∙ ap (bit_xor s) (sym (sum-front m (λ j. bit_and (get_or (x ∷ xs) j 0) (get_or (y ∷ ys) j 0))))

-- the products of the first q bytes, of as many as there are
pub dot-whole : (q at : ℕ) (rows v : List ℕ)
    → fold (λ sum p. bit_xor sum (bit_and p.0 p.1)) 0 (zip (take q (drop at rows)) v) ≡ sum q (λ j. bit_and (get_or rows (at + j) 0) (get_or v j 0))
dot-whole q at rows v =
    products-zipped (take q (drop at rows)) v 0 q (omega (arith, length-take q (drop at rows)))
    ∙ xor_zero_l _
    ∙ sum-cong q _ _ (λ j l. ap (λ x. bit_and x (get_or v j 0)) (part-byte rows at q j l))

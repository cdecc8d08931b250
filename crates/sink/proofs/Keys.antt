-- A column written into the rows of a packed key. Assumes nothing.
use Rattle.std.proofs.Common.{◌≡◌, ℕ, zero, suc, ◌+◌, ◌*◌, ◌/◌, ◌%◌, ◌^◌, ◌<◌, ◌≤◌, true, false, cond, eqb, ltb, List, length, get_or, set, sym, refl, ap, subst, ◌∙◌, inl, inr, one-mul, zero-mul, arith}
use lib.Bits.{bit_xor, xor_assoc, xor_self, xor_zero_l, xor_zero_r}
use Rattle.std.proofs.lemmas.Bool.{cases_eq, eq-eqb, ne_eqb, cond-true, cond-false, lt-ltb}
use Rattle.matrix.specs.Matrix.{delta}
use Rattle.bits.specs.Bits.{bytes_for, bit_of, bits_of, of_rows, pack}
use Rattle.bits.proofs.Packs.{bit-zero, bits-lt, pad-in, pack-cong}
use Rattle.bits.proofs.Bytes.{bit-xor}
use Rattle.bits.proofs.Units.{power-bit}
use Rattle.sink.specs.Layout.{Written}
use Rattle.sink.specs.Store.{key_matrix}
use Rattle.sink.proofs.Rows.{byte-here, byte-other, row-place}

shifted-bit : (d b k : ℕ) → d < 2 → b < 8 → k < 8 → bit_of (d * 2 ^ b) k ≡ cond (eqb b k) d 0
unfolding delta
shifted-bit zero b k h hb hk = ap (λ x. bit_of x k) (zero-mul (2 ^ b)) ∙ bit-zero k ∙ elim (eqb b k) as (λ t. ◌≡◌ {A = ℕ} 0 (cond t 0 0)) [ true ↦ refl | false ↦ refl ]
shifted-bit (suc zero) b k h hb hk = ap (λ x. bit_of x k) (one-mul (2 ^ b)) ∙ power-bit b k hb hk
shifted-bit (suc (suc d)) b k h hb hk = absurd (omega arith)

-- bit b of x changed to c
pub bit-put : (x b c d k : ℕ) → d ≡ bit_xor (bit_of x b) c → d < 2 → b < 8 → k < 8 → bit_of (bit_xor x (d * 2 ^ b)) k ≡ cond (eqb b k) c (bit_of x k)
bit-put x b c d k e h hb hk =
    bit-xor x (d * 2 ^ b) k ∙ ap (bit_xor (bit_of x k)) (shifted-bit d b k h hb hk)
    ∙ elim (cases_eq b k) [
      | inl p ↦
          ap (bit_xor (bit_of x k)) (cond-true (eqb b k) d 0 (eq-eqb b k p) ∙ e)
          ∙ ap (λ y. bit_xor (bit_of x y) (bit_xor (bit_of x b) c)) (sym p)
          ∙ sym (xor_assoc (bit_of x b) (bit_of x b) c) ∙ ap (λ y. bit_xor y c) (xor_self (bit_of x b)) ∙ xor_zero_l c
          ∙ sym (cond-true (eqb b k) c (bit_of x k) (eq-eqb b k p))
      | inr p ↦
          ap (bit_xor (bit_of x k)) (cond-false (eqb b k) d 0 (ne_eqb b k p)) ∙ xor_zero_r (bit_of x k) ∙ sym (cond-false (eqb b k) c (bit_of x k) (ne_eqb b k p))
    ]

-- rows below i have their bit in column t; all else is as it was
pub record Writing (w n t : ℕ) (v xs ys : List ℕ) (i : ℕ) : Type 0 where
  pub done : (a : ℕ) → a < i → of_rows w ys a t ≡ bits_of v a
  pub rest : (a j : ℕ) → a < n → j < 8 * w → (j ≡ t → i ≤ a) → of_rows w ys a j ≡ of_rows w xs a j

-- y is byte t / 8 of row i with the bit of v put in column t
abbrev pub Put : ℕ → ℕ → ℕ → ℕ → List ℕ → List ℕ → Type 0
Put w i t y v ys = (k : ℕ) → k < 8 → bit_of y k ≡ cond (eqb (t % 8) k) (bits_of v i) (bit_of (get_or ys (i * w + t / 8) 0) k)

-- what is not in column t is as it was
pub key-kept : (w i t y : ℕ) (v ys : List ℕ) → t < 8 * w → i * w + t / 8 < length ys → Put w i t y v ys
    → (a j : ℕ) → j < 8 * w → (j ≡ t → a ≡ i → ⊥) → of_rows w (set ys (i * w + t / 8) y) a j ≡ of_rows w ys a j
key-kept w i t y v ys ht room put a j lj apart =
    let qt : t / 8 < w = omega arith in
    elim (cases_eq a i) [
      | inl e ↦
          elim (cases_eq (j / 8) (t / 8)) [
            | inl q ↦
                ap (λ x. of_rows w (set ys (i * w + t / 8) y) x j) e ∙ byte-here w i (t / 8) y ys room j q
                ∙ put (j % 8) (omega arith) ∙ cond-false (eqb (t % 8) (j % 8)) _ _ (ne_eqb (t % 8) (j % 8) (λ m. apart (omega arith) e))
                ∙ row-place w ys i j (t / 8) q ∙ ap (λ x. of_rows w ys x j) (sym e)
            | inr q ↦ byte-other w i (t / 8) y ys a j qt lj (λ _ p. q p)
          ]
      | inr ne ↦ byte-other w i (t / 8) y ys a j qt lj (λ e _. ne e)
    ]

pub key_step : (w n i t y : ℕ) (v xs ys : List ℕ) → t < 8 * w → i * w + t / 8 < length ys → Put w i t y v ys
    → Writing w n t v xs ys i → Writing w n t v xs (set ys (i * w + t / 8) y) (i + 1)
key_step w n i t y v xs ys ht room put was =
    record {
      done = λ a l. elim (cases_eq a i) [
        | inl e ↦
            ap (λ x. of_rows w (set ys (i * w + t / 8) y) x t) e ∙ byte-here w i (t / 8) y ys room t refl
            ∙ put (t % 8) (omega arith) ∙ cond-true (eqb (t % 8) (t % 8)) _ _ (eq-eqb (t % 8) (t % 8) refl) ∙ ap (bits_of v) (sym e)
        | inr ne ↦ key-kept w i t y v ys ht room put a t ht (λ _ e. ne e) ∙ was.done a (omega arith)
      ];
      rest = λ a j la lj h.
          key-kept w i t y v ys ht room put a j lj (λ p e. let q = h p in omega arith) ∙ was.rest a j la lj (λ p. let q = h p in omega arith);
    }

-- all rows
pub key-written : (n l t w : ℕ) (v xs ys : List ℕ) → w ≡ bytes_for l → t < l → length ys ≡ length xs → Writing w n t v xs ys n → Written false n l t v xs ys
key-written n l t w v xs ys ew ht long told =
    let wrote : Writing (bytes_for l) n t v xs ys n = subst (λ w. Writing w n t v xs ys n) ew told in
    record {
      long = long;
      bits = λ a b la lb. elim (cases_eq b t) [
        | inl e ↦
            let small = bits-lt v a in
            ap (of_rows (bytes_for l) ys a) e ∙ wrote.done a la ∙ (let m : bits_of v a ≡ bits_of v a % 2 = omega arith in m)
            ∙ sym (pad-in n (bits_of v) a la) ∙ sym (cond-true (eqb b t) _ _ (eq-eqb b t e))
        | inr ne ↦ wrote.rest a b la lb (λ e. absurd (ne e)) ∙ sym (cond-false (eqb b t) _ _ (ne_eqb b t ne))
      ];
    }

-- a column that is 0 past row n, written over memory of n bits
pub key-column : (n l t : ℕ) (xs out got : List ℕ) → length out ≡ bytes_for n
    → got ≡ cond (eqb (length out) (bytes_for n)) (pack n (λ i. cond (ltb i n) (key_matrix l xs i t) 0)) out → got ≡ pack n (λ i. key_matrix l xs i t)
key-column n l t xs out got room wrote =
    wrote ∙ cond-true (eqb (length out) (bytes_for n)) _ _ (eq-eqb (length out) (bytes_for n) room)
    ∙ pack-cong n (λ i. cond (ltb i n) (key_matrix l xs i t) 0) (λ i. key_matrix l xs i t) (λ i h. cond-true (ltb i n) _ _ (lt-ltb i n h))

-- Memory of rows, w bytes each: one byte changed, and the bytes told by the bits. Assumes nothing.
use Rattle.std.proofs.Common.{◌≡◌, ℕ, zero, suc, ◌+◌, ◌*◌, ◌/◌, ◌%◌, ◌<◌, cond, ltb, ◌≢◌, List, [], length, get_or, set, replicate, sym, ap, ◌∙◌, ap₂, inl, inr, mod-eq_of_lt, mul-zero, arith, get_or-set_other, get_or-set_same}
use lib.ListN.{get_or-replicate, length-replicate}
use Rattle.std.proofs.lemmas.List.{get_or_past}
use Rattle.std.proofs.lemmas.List.FromFn.{fill_by_all}
use Rattle.std.proofs.lemmas.Bool.{cases_lt, cond-true, lt-ltb}
use Rattle.std.proofs.lemmas.Nat.{div-mul-add, mod-mul-add, div_below, mod_below, div-add-mod'}
use Rattle.matrix.specs.Matrix.{Mat}
use Rattle.bits.specs.Bits.{bytes_for, bit_of, bits_of, byte_at, pad_bit, of_rows}
use Rattle.bits.specs.Columns.{packed_rows}
use Rattle.bits.proofs.Packs.{bit-zero, bit-lt, low-mod, low-cong}

-- byte q of row i changed to y
module _ (w i q y : ℕ) (xs : List ℕ) where
  pub byte-here : i * w + q < length xs → (j : ℕ) → j / 8 ≡ q → of_rows w (set xs (i * w + q) y) i j ≡ bit_of y (j % 8)
  unfolding of_rows
  byte-here room j e =
      ap (λ p. bit_of (get_or (set xs (i * w + q) y) (i * w + p) 0) (j % 8)) e
      ∙ ap (λ x. bit_of x (j % 8)) (get_or-set_same xs (i * w + q) y 0 room)

  pub byte-other : (a j : ℕ) → q < w → j < 8 * w → (a ≡ i → j / 8 ≡ q → ⊥) → of_rows w (set xs (i * w + q) y) a j ≡ of_rows w xs a j
  unfolding of_rows
  byte-other a j hq hj apart =
      let lj : j / 8 < w = omega arith in
      let ne : a * w + j / 8 ≢ i * w + q = λ e. apart
      (sym (div-mul-add a w (j / 8) lj) ∙ ap (λ x. x / w) e ∙ div-mul-add i w q hq)
      (sym (mod-mul-add a w (j / 8) lj) ∙ ap (λ x. x % w) e ∙ mod-mul-add i w q hq) in
      ap (λ x. bit_of x (j % 8)) (get_or-set_other xs (i * w + q) (a * w + j / 8) y 0 ne)

pub row-place : (w : ℕ) (xs : List ℕ) (i j q : ℕ) → j / 8 ≡ q → bit_of (get_or xs (i * w + q) 0) (j % 8) ≡ of_rows w xs i j
unfolding of_rows
row-place w xs i j q e = ap (λ p. bit_of (get_or xs (i * w + p) 0) (j % 8)) (sym e)

pub of_rows-lt : (w : ℕ) (xs : List ℕ) (i j : ℕ) → of_rows w xs i j < 2
unfolding of_rows
of_rows-lt w xs i j = bit-lt (get_or xs (i * w + j / 8) 0) (j % 8)

pub bits_none : (i : ℕ) → bits_of [] i ≡ 0
unfolding bits_of
bits_none i = bit-zero (i % 8)

-- nothing is set in a cleared memory
pub rows-blank : (w m a j : ℕ) → of_rows w (replicate m 0) a j ≡ 0
unfolding of_rows
rows-blank w m a j = elim (cases_lt (a * w + j / 8) m) [
  | inl l ↦ ap (λ x. bit_of x (j % 8)) (get_or-replicate m (a * w + j / 8) 0 0 l) ∙ bit-zero (j % 8)
  | inr l ↦ ap (λ x. bit_of x (j % 8)) (get_or_past (replicate m 0) (a * w + j / 8) 0 (let e = length-replicate {A = ℕ} m 0 in omega arith)) ∙ bit-zero (j % 8)
]

eighth : (q b : ℕ) → b < 8 → q ≡ (8 * q + b) / 8
eighth q b l = omega arith

eighth-rest : (q b : ℕ) → b < 8 → b ≡ (8 * q + b) % 8
eighth-rest q b l = omega arith

some-factor : (n w p : ℕ) → p < n * w → 0 < w
some-factor n zero p h = absurd (omega (arith, mul-zero n))
some-factor n (suc w) p h = omega arith

-- a memory is the packed rows of e if each of its bits is
pub rows-bytes : (n l : ℕ) (xs : List ℕ) (e : Mat) → length xs ≡ n * bytes_for l → ((p : ℕ) → p < length xs → get_or xs p 0 < 256)
    → ((i j : ℕ) → i < n → j < 8 * bytes_for l → pad_bit l (e i) j ≡ of_rows (bytes_for l) xs i j)
    → xs ≡ packed_rows n l e
unfolding packed_rows byte_at
rows-bytes n l xs e len small entry =
    let w = bytes_for l in
    fill_by_all (λ p. byte_at l (e (p / w)) (p % w)) xs (n * w) 0 len (λ p h.
    let some : 0 < w = some-factor n w p h in
    let i = p / w in
    let q = p % w in
    let li : i < n = div_below p w n some h in
    let lq : q < w = mod_below p w some in
    let place : i * w + q ≡ p = div-add-mod' p w in
    let x = get_or xs p 0 in
    let fits : x < 256 = small p (omega arith) in
    sym (mod-eq_of_lt fits)
    ∙ sym (low-mod 8 8 x (omega arith))
    ∙ low-cong 8 (λ b. cond (ltb b 8) (bit_of x b) 0) (λ b. pad_bit l (e i) (8 * q + b)) (λ b lb.
    cond-true (ltb b 8) _ _ (lt-ltb b 8 lb)
    ∙ ap₂ (λ y z. bit_of (get_or xs y 0) z) (sym place) (eighth-rest q b lb)
    ∙ row-place w xs i (8 * q + b) q (sym (eighth q b lb))
    ∙ sym (entry i (8 * q + b) li (omega arith))))

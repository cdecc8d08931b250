-- Unit rows by bytes, and columns that are right. Assumes nothing.
use Rattle.std.proofs.Common.{◌≡◌, ℕ, ◌+◌, ◌*◌, ◌/◌, ◌%◌, ◌^◌, ◌<◌, ◌≤◌, true, not, eqb, Option, Some, None, MatchOption, List, get_or, sym, refl, ap, ◌∙◌, inl, inr, arith}
use Rattle.std.proofs.lemmas.Bool.{cases_lt, cases_eq, eq-eqb, ne_eqb, eqb-true, cond-true, cond-false}
use Rattle.matrix.specs.Matrix.{delta}
use Rattle.matrix.specs.Search.{found}
use Rattle.matrix.proofs.Searches.{found-is, found-none}
use Rattle.matrix.proofs.Sums.{delta-on, delta-off}
use Rattle.bits.specs.Bits.{bit_of, bits_of, unit_byte}
use Rattle.bits.proofs.Packs.{bit-zero}
use Rattle.bits.proofs.Bytes.{every, every_true}

power-test : every 8 (λ r. every 8 (λ b. eqb (bit_of (2 ^ r) b) (delta r b))) ≡ true
unfolding every bit_of delta
power-test = refl

-- bit b of the byte 2 ^ r
pub power-bit : (r b : ℕ) → r < 8 → b < 8 → bit_of (2 ^ r) b ≡ delta r b
power-bit r b hr hb =
    eqb-true (bit_of (2 ^ r) b) (delta r b)
    (every_true 8 (λ b. eqb (bit_of (2 ^ r) b) (delta r b)) (every_true 8 (λ r. every 8 (λ b. eqb (bit_of (2 ^ r) b) (delta r b))) power-test r hr) b hb)

-- bit b of byte j of the unit row i
unit-bit : (i j b : ℕ) → b < 8 → bit_of (unit_byte i j) b ≡ delta i (8 * j + b)
unit-bit i j b h = elim (cases_eq (i / 8) j) [
  | inl e ↦
      ap (λ x. bit_of x b) (cond-true (eqb (i / 8) j) _ _ (eq-eqb (i / 8) j e))
      ∙ power-bit (i % 8) b (omega arith) h
      ∙ elim (cases_eq (i % 8) b) [
        | inl p ↦ delta-on (i % 8) b p ∙ sym (delta-on i (8 * j + b) (omega arith))
        | inr p ↦ delta-off (i % 8) b p ∙ sym (delta-off i (8 * j + b) (λ q. p (omega arith)))
      ]
  | inr ne ↦
      ap (λ x. bit_of x b) (cond-false (eqb (i / 8) j) _ _ (ne_eqb (i / 8) j ne))
      ∙ bit-zero b
      ∙ sym (delta-off i (8 * j + b) (λ q. ne (omega arith)))
]

-- a byte of the unit row has its eight columns right
pub byte-right : (xs : List ℕ) (i j k : ℕ) → get_or xs j 0 ≡ unit_byte i j → k / 8 ≡ j → bits_of xs k ≡ delta i k
unfolding bits_of
byte-right xs i j k same d =
    let p : 8 * j + k % 8 ≡ k = omega arith in
    ap (λ q. bit_of (get_or xs q 0) (k % 8)) d
    ∙ ap (λ x. bit_of x (k % 8)) same
    ∙ unit-bit i j (k % 8) (omega arith)
    ∙ ap (delta i) p

-- what a search for the first wrong column found, where those before `from` are right
pub first-found : (xs : List ℕ) (n i from : ℕ) (r : Option ℕ) → ((k : ℕ) → k < from → bits_of xs k ≡ delta i k)
    → MatchOption r ((k : ℕ) → from ≤ k → k < n → bits_of xs k ≡ delta i k)
    (λ j. (from ≤ j) × (j < n) × (bits_of xs j ≡ delta i j → ⊥) × ((k : ℕ) → from ≤ k → k < j → bits_of xs k ≡ delta i k))
    → r ≡ found n (λ j. not (eqb (bits_of xs j) (delta i j)))
first-found xs n i from None before h = found-none n _ (λ k l. elim (cases_lt k from) [
  | inl b ↦ ap not (eq-eqb (bits_of xs k) (delta i k) (before k b))
  | inr b ↦ ap not (eq-eqb (bits_of xs k) (delta i k) (h k b l))
])
first-found xs n i from (Some j) before h = found-is n j _ h.1 (λ k l. elim (cases_lt k from) [
  | inl b ↦ ap not (eq-eqb (bits_of xs k) (delta i k) (before k b))
  | inr b ↦ ap not (eq-eqb (bits_of xs k) (delta i k) (h.3 k b l))
]) (ap not (ne_eqb (bits_of xs j) (delta i j) h.2))

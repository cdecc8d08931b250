-- What a stored matrix is that was made of fitting values, and of refused ones. Assumes nothing.
use Rattle.std.proofs.Common.{◌≡◌, ℕ, zero, suc, ◌+◌, ◌*◌, ◌/◌, ◌%◌, cond, List, [], ◌∷◌, length, get_or, is_ok, Ok, Err, Result, sym, refl, ap, ◌∙◌, ap₂}
use Rattle.bits.specs.Bits.{bytes_for, bit_of, of_rows}
use Rattle.bits.proofs.Packs.{bit-zero, funext}
use Rattle.operator.specs.declared.fault.MakeFault.{MakeFault}
use Rattle.operator.specs.Actions.{Stored, stored_check, zeros}

byte-zero : (k : ℕ) → ◌≡◌ {A = ℕ} (get_or (0 ∷ []) k 0) 0
byte-zero zero = refl
byte-zero (suc k) = refl

-- one byte 0 is the 1 by 1 zero matrix
zero-stored : of_rows 1 (0 ∷ []) ≡ zeros
unfolding of_rows
zero-stored = funext (λ i. funext (λ j. ap (λ x. bit_of x (j % 8)) (byte-zero (i * 1 + j / 8)) ∙ bit-zero (j % 8)))

module _ (n : ℕ) (xs : List ℕ) (m : ℕ) (ys : List ℕ) where
  pub made-fitting : stored_check n (length xs) ≡ Ok tt → m ≡ n → ys ≡ xs → Stored n xs m (of_rows (bytes_for m) ys)
  made-fitting ok em ey = record {
    size = em ∙ ap (λ (r : Result (Unit {0}) MakeFault). cond (is_ok r) n 1) (sym ok);
    entries = ap₂ (λ k zs. of_rows (bytes_for k) zs) em ey ∙ ap (λ (r : Result (Unit {0}) MakeFault). cond (is_ok r) (of_rows (bytes_for n) xs) zeros) (sym ok);
  }

  pub made-refused : (e : MakeFault) → stored_check n (length xs) ≡ Err e → m ≡ 1 → ys ≡ 0 ∷ [] → Stored n xs m (of_rows (bytes_for m) ys)
  made-refused e no' em ey = record {
    size = em ∙ ap (λ (r : Result (Unit {0}) MakeFault). cond (is_ok r) n 1) (sym no');
    entries = ap₂ (λ k zs. of_rows (bytes_for k) zs) em ey ∙ zero-stored ∙ ap (λ (r : Result (Unit {0}) MakeFault). cond (is_ok r) (of_rows (bytes_for n) xs) zeros) (sym no');
  }

-- Rows taken one after another from a memory of whole rows, and the sum of those where a vector has a 1. Assumes nothing.
use Rattle.std.proofs.Common.{◌≡◌, ℕ, ◌+◌, ◌*◌, ◌<◌, ◌≤◌, cond, eqb, List, ◌++◌, length, get_or, drop, sym, ap, ◌∙◌, suc-mul, zero-mul, zero-add, add-one, arith, length-append, length-drop}
use lib.Bits.{bit_xor}
use Rattle.std.proofs.Math.Nat.{mul-le-mul_right}
use Rattle.std.proofs.Math.Seq.{drop-append_seam}
use Rattle.std.proofs.lemmas.Bool.{eq-eqb}
use Rattle.std.proofs.lemmas.List.{get_or_append_left, get_or-drop, drop-drop}
use Rattle.galois.specs.Bit.{bits}
use Rattle.matrix.specs.Matrix.{sum, apply_row}
use Rattle.bits.specs.Bits.{bits_of, bytes_for, of_rows, pack}
use Rattle.bits.proofs.Bytes.{rows-combined}

-- of the n rows, the first `count` are summed up in `out` where v has a 1, and `rest` holds the others
pub record Combined (n : ℕ) (rows v : List ℕ) (size : ℕ) (rest : List ℕ) (count : ℕ) (out : List ℕ) : Type 0 where
  pub width : size ≡ bytes_for n
  pub left : rest ≡ drop (count * bytes_for n) rows
  pub within : count ≤ n
  pub long : length out ≡ bytes_for n
  pub bytes : (j : ℕ) → j < length out → get_or out j 0 ≡ sum count (λ k. bits_of v k * get_or rows (k * bytes_for n + j) 0)

pub combined-none : {n size count : ℕ} {rows v rest out : List ℕ} → size ≡ bytes_for n → rest ≡ rows → count ≡ 0 → length out ≡ bytes_for n
    → ((j : ℕ) → j < length out → get_or out j 0 ≡ 0) → Combined n rows v size rest count out
unfolding sum
combined-none width left none long h = record { width = width; left = rw (none, zero-mul) left; within = omega arith; long = long; bytes = λ j l. rw none (h j l) }

module _ {n size count : ℕ} {rows v rest out : List ℕ} (whole : length rows ≡ n * bytes_for n) (was : Combined n rows v size rest count out) where
  -- the next row, and the bit b of v for it
  pub combined-more : {size' count' i b : ℕ} (row : List ℕ) {rest' out' : List ℕ} → 0 < n → size' ≡ size → (rest ≡ row ++ rest') × (length row ≡ size) → i ≡ count → count' ≡ count + 1
      → b ≡ bits_of v i → length out' ≡ length out → ((j : ℕ) → j < length out' → get_or out' j 0 ≡ bit_xor (get_or out j 0) (b * get_or row (0 + j) 0))
      → Combined n rows v size' rest' count' out'
  unfolding sum
  combined-more row {rest'} some same cut place next bit long h =
      let wide : length row ≡ bytes_for n = cut.1 ∙ was.width in
      let parts : drop (count * bytes_for n) rows ≡ row ++ rest' = sym was.left ∙ cut.0 in
      let lt : count < n = grind (arith, ap length parts, length-drop, length-append, mul-le-mul_right) in
      record {
        width = same ∙ was.width;
        left = rw (next, add-one, suc-mul, ← drop-drop, parts, ← wide, drop-append_seam);
        within = omega arith;
        long = long ∙ was.long;
        bytes = λ j l.
            let in_row : j < length row = omega (arith, wide, long, was.long) in
            let byte : get_or row (0 + j) 0 ≡ get_or rows (count * bytes_for n + j) 0 = rw (zero-add, ← get_or-drop, parts, get_or_append_left) in
            rw (next, add-one, ← was.bytes j (omega arith), ← byte, ← place, ← bit) (h j l);
      }

  pub combined-all : length rest < size → cond (eqb (length out) (bytes_for n)) (pack n (bits_of out)) out ≡ pack n (apply_row bits n (of_rows (bytes_for n) rows) (bits_of v))
  combined-all short =
      let last : n ≤ count = grind (arith, ap length was.left, was.width, length-drop, mul-le-mul_right, suc-mul, add-one) in
      let end : count ≡ n = omega (arith, was.within) in
      rw (eq-eqb (length out) (bytes_for n) was.long) (rows-combined n rows v out (λ j l. rw end at (was.bytes j (omega (arith, was.long)))))

-- The product of a stored matrix and a vector, bit by bit. Assumes nothing.
use Rattle.std.proofs.Common.{◌≡◌, ℕ, ◌*◌, ◌<◌, List, ap, ◌∙◌, mod-eq_of_lt}
use Rattle.galois.specs.Bit.{bits, both}
use Rattle.matrix.specs.Matrix.{Mat, sum, apply}
use Rattle.bits.specs.Bits.{bytes_for, bits_of, bits_from, of_rows, pad_bit, pack}
use Rattle.bits.proofs.Packs.{apply-lt, pad-in, pack-cong}

-- row i with the vector v
pub dot-entry : (n i l : ℕ) (rows v : List ℕ) → l ≡ bytes_for n
    → sum n (λ k. both (bits_from (i * l) rows k) (bits_of v k)) ≡ apply bits n (of_rows (bytes_for n) rows) (bits_of v) i
unfolding apply of_rows bits_from
dot-entry n i l rows v e = ap (λ w. sum n (λ k. both (bits_from (i * w) rows k) (bits_of v k))) e

pub pad-entry : (n : ℕ) (m : Mat) (f : ℕ → ℕ) (i : ℕ) → i < n → pad_bit n (apply bits n m f) i ≡ apply bits n m f i
pad-entry n m f i h = pad-in n (apply bits n m f) i h ∙ mod-eq_of_lt (apply-lt bits n m f i)

pub pack-padded : (n : ℕ) (m : Mat) (f : ℕ → ℕ) → pack n (pad_bit n (apply bits n m f)) ≡ pack n (apply bits n m f)
pack-padded n m f = pack-cong n (pad_bit n (apply bits n m f)) (apply bits n m f) (pad-entry n m f)

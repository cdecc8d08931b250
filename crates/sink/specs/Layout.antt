-- Memory that is rows of bits, each of whole bytes: a row is a column (c), or else has one bit of every column.
-- Assumes nothing.
-- rows        how many rows
-- width       how many bits a row has
-- wanted      how many bytes
-- column_at   the column that a bit of the memory is of
-- bit_at      and which of its bits
-- Blank       what is no bit of a column taken is 0
-- Written     one column written, for private functions
use Rattle.std.specs.Prelude.{◌≡◌, ℕ, ◌*◌, ◌<◌, ◌≤◌, Bool, cond, ◌⊎◌, List, length, ◌==◌}
use Rattle.bits.specs.Bits.{bytes_for, bits_of, of_rows, pad_bit}

-- how many rows
abbrev pub rows : Bool → ℕ → ℕ → ℕ
rows c n l = cond c l n

-- how many bits a row has
abbrev pub width : Bool → ℕ → ℕ → ℕ
width c n l = cond c n l

-- how many bytes
abbrev pub wanted : Bool → ℕ → ℕ → ℕ
wanted c n l = rows c n l * bytes_for (width c n l)

-- the column that bit b of row a is of
abbrev pub column_at : Bool → ℕ → ℕ → ℕ
column_at c a b = cond c a b

-- and which of its bits
abbrev pub bit_at : Bool → ℕ → ℕ → ℕ
bit_at c a b = cond c b a

-- size n, limit l, and k columns taken
abbrev pub Blank : Bool → ℕ → ℕ → ℕ → List ℕ → Type 0
Blank c n l k xs = (a b : ℕ) → (a < rows c n l) × (b < 8 * bytes_for (width c n l)) × ((k ≤ column_at c a b) ⊎ (n ≤ bit_at c a b))
    → of_rows (bytes_for (width c n l)) xs a b ≡ 0

-- the bits of column k are those of v, with pad bits 0; the others are as they were
pub record Written (c : Bool) (n l k : ℕ) (v before after : List ℕ) : Type 0 where
  pub long : length after ≡ length before
  pub bits : (a b : ℕ) → a < rows c n l → b < 8 * bytes_for (width c n l)
      → of_rows (bytes_for (width c n l)) after a b ≡ cond (column_at c a b == k) (pad_bit n (bits_of v) (bit_at c a b)) (of_rows (bytes_for (width c n l)) before a b)

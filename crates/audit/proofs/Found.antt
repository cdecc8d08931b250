-- From what is compared to the verdict. Assumes nothing.
use Rattle.std.proofs.Common.{◌≡◌, ℕ, ◌+◌, ◌*◌, ◌%◌, ◌<◌, List, length, get_or, sym, ap, ◌∙◌, inl, inr, arith}
use Rattle.std.proofs.lemmas.Bool.{cases_lt, cases_eq}
use Rattle.galois.specs.Bit.{bits}
use Rattle.matrix.specs.Matrix.{Mat, Els}
use Rattle.matrix.specs.Words.{from_column, LeftInverse}
use Rattle.matrix.proofs.Checks.{algebra, times-lt}
use Rattle.bits.specs.Bits.{bytes_for, bits_of, of_rows, pack}
use Rattle.bits.specs.Columns.{packed_rows}
use Rattle.bits.proofs.Packs.{bits-pack-in, pad-in, pad-out}
use Rattle.sink.specs.Store.{key_matrix}
use Rattle.sink.proofs.Rows.{rows-bytes}
use Rattle.key.specs.Columns.{IsPublic}
use Rattle.key.specs.declared.sizes.Sizes.{Sizes}
use Rattle.audit.specs.Verdicts.{SameColumns, Padless, Differs, Belongs, Long}
use Rattle.audit.specs.Solving.{product}

pub is-public : (s : Sizes) (H : Mat) (inverse : List ℕ) → Els bits H → LeftInverse bits s.rows H (of_rows (bytes_for s.rows) inverse) → IsPublic s H (product s.rows inverse H)
is-public s H inverse els inv = (algebra bits).systematic s.rows s.rest H (of_rows (bytes_for s.rows) inverse) els inv

pub product_lt : (n : ℕ) (inverse : List ℕ) (H : Mat) (i c : ℕ) → product n inverse H i c < 2
product_lt n inverse H i c = times-lt bits n (of_rows (bytes_for n) inverse) (from_column n H) i c

-- the bits of a column made
pub column-bit : (n c : ℕ) (inverse own : List ℕ) (H : Mat) → own ≡ pack n (λ i. product n inverse H i c) → (a : ℕ) → a < n → bits_of own a ≡ product n inverse H a c
column-bit n c inverse own H is a h = ap (λ xs. bits_of xs a) is ∙ bits-pack-in n (λ i. product n inverse H i c) a h (product_lt n inverse H a c)

-- one more column that agrees
pub agrees-more : (n k c : ℕ) (xs own : List ℕ) (T : Mat) → SameColumns n k xs T c → ((a : ℕ) → a < n → key_matrix k xs a c ≡ bits_of own a) → ((a : ℕ) → a < n → bits_of own a ≡ T a c) → SameColumns n k xs T (c + 1)
agrees-more n k c xs own T before here made a b ha hb = elim (cases_eq b c) [
  | inl e ↦ ap (key_matrix k xs a) e ∙ here a ha ∙ made a ha ∙ ap (T a) (sym e)
  | inr ne ↦ before a b ha (omega arith)
]

-- the first bit that differs
pub differs-at : (n k c i : ℕ) (xs own : List ℕ) (T : Mat) → c < k → SameColumns n k xs T c → ((a : ℕ) → a < n → bits_of own a ≡ T a c) → i < n
    → ((a : ℕ) → a < i → key_matrix k xs a c ≡ bits_of own a) → (key_matrix k xs i c ≡ bits_of own i → ⊥) → Differs n k xs T c i
differs-at n k c i xs own T hc before made hi above ne = record {
  column = hc;
  row = hi;
  earlier = before;
  above = λ a h. above a h ∙ made a (omega arith);
  differs = λ e. ne (e ∙ sym (made i hi));
}

-- bits and pad bits are right: so are the bytes
pub rows-right : (n k : ℕ) (xs : List ℕ) (T : Mat) → length xs ≡ n * bytes_for k → ((p : ℕ) → p < length xs → get_or xs p 0 < 256) → ((i j : ℕ) → T i j < 2) → SameColumns n k xs T k
    → ((a : ℕ) → a < n → Padless k xs a) → xs ≡ packed_rows n k T
rows-right n k xs T long small els agrees clean =
    rows-bytes n k xs T long small (λ i j hi hj. elim (cases_lt j k) [
      | inl l ↦ let e = els i j in let q : T i j % 2 ≡ T i j = omega arith in pad-in k (T i) j l ∙ q ∙ sym (agrees i j hi l)
      | inr l ↦ pad-out k (T i) j l ∙ sym (clean i hi j l hj)
    ])

pub belongs : (s : Sizes) (H : Mat) (inverse xs : List ℕ) → Els bits H → LeftInverse bits s.rows H (of_rows (bytes_for s.rows) inverse) → Long s xs
    → ((p : ℕ) → p < length xs → get_or xs p 0 < 256) → SameColumns s.rows s.rest xs (product s.rows inverse H) s.rest → ((a : ℕ) → a < s.rows → Padless s.rest xs a) → Belongs s H xs
belongs s H inverse xs els inv long small agrees clean = record {
  key = product s.rows inverse H;
  public = is-public s H inverse els inv;
  packed = rows-right s.rows s.rest xs (product s.rows inverse H) long small (product_lt s.rows inverse H) agrees clean;
}

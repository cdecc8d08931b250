-- What a sink holds, and what taking, reading and making do. Assumes nothing.
-- Store          size, limit, columns taken, and the memory where it is more than the columns
-- take_answer    what taking returns
-- with_column    one column more
-- Taking         what taking does
-- read_answer    what reading returns
-- Reading        what reading does
-- book_matrix    the matrix in a column book's memory
-- key_matrix     the matrix in a packed key's memory
-- store_of       the store of a memory that holds a matrix
-- matrix_in      the matrix in the memory of either sink
-- store_in       what either sink holds
-- key_store      what a packed key holds
-- book_bytes     a column book's memory, told by its store
-- key_bytes      a packed key's memory, told by its store
-- bytes_in       either sink's memory, told by its store
-- make_answer    what making a sink is refused by
-- book_check     the same of a column book
-- key_check      the same of a packed key
-- check_in       the same of either sink
-- refused_store  a sink of refused values
-- new_store      a new sink
-- open_store     a packed key that was received
use Rattle.std.specs.Prelude.{◌≡◌, ℕ, ◌*◌, Bool, true, false, cond, List, [], ◌∷◌, ◌++◌, length, is_ok, Ok, Err, Result, ◌==◌, nat_le, nat_lt, slice_index_or}
use Rattle.matrix.specs.Matrix.{Mat}
use Rattle.bits.specs.Bits.{bytes_for, bits_of, of_rows, pack}
use Rattle.bits.specs.Columns.{columns_of, entry_of, packed_rows}
use Rattle.sink.specs.declared.fault.SinkFault.{SinkFault}
use Rattle.sink.specs.declared.fault.SinkFault.TheVariants.{Length, Full, Absent}
use Rattle.sink.specs.declared.fault.MakeFault.{MakeFault}
use Rattle.sink.specs.declared.fault.MakeFault.TheVariants.{Size, Limit, Memory}

-- columns are packed, with pad bits 0; whole: the memory holds the columns and is 0 elsewhere, else it is `other`
pub record Store : Type 0 where
  pub size : ℕ
  pub limit : ℕ
  pub columns : List (List ℕ)
  pub whole : Bool
  pub other : List ℕ

-- what taking a vector of l bytes returns
abbrev pub take_answer : Store → ℕ → Result (Unit {0}) SinkFault
take_answer s l = cond (l == bytes_for s.size) (cond (nat_lt (length s.columns) s.limit) (Ok tt) (Err (Full s.limit))) (Err (Length l))

-- one column more, its pad bits cleared
abbrev pub with_column : Store → List ℕ → Store
with_column s v = record { size = s.size; limit = s.limit; columns = s.columns ++ pack s.size (bits_of v) ∷ []; whole = s.whole; other = s.other }

-- a refusal alters nothing
pub record Taking (before after : Store) (v : List ℕ) (r : Result (Unit {0}) SinkFault) : Type 0 where
  pub result : r ≡ take_answer before (length v)
  pub holds : after ≡ cond (is_ok r) (with_column before v) before

-- what reading column j into l bytes returns
abbrev pub read_answer : Store → ℕ → ℕ → Result (Unit {0}) SinkFault
read_answer s j l = cond (l == bytes_for s.size) (cond (nat_lt j (length s.columns)) (Ok tt) (Err (Absent j))) (Err (Length l))

-- the memory that column j is read into, before and after
pub record Reading (s : Store) (j : ℕ) (before after : List ℕ) (r : Result (Unit {0}) SinkFault) : Type 0 where
  pub result : r ≡ read_answer s j (length before)
  pub written : after ≡ cond (is_ok r) (slice_index_or s.columns j []) before

-- the matrix in a column book: column after column of n bits
abbrev pub book_matrix : ℕ → List ℕ → Mat
book_matrix n xs i j = of_rows (bytes_for n) xs j i

-- the matrix in a packed key: row after row of l bits
abbrev pub key_matrix : ℕ → List ℕ → Mat
key_matrix l xs = of_rows (bytes_for l) xs

-- size n, limit l, and the first k columns of the matrix e in the memory xs
abbrev pub store_of : ℕ → ℕ → ℕ → Bool → List ℕ → Mat → Store
store_of n l k wh xs e = record { size = n; limit = l; columns = columns_of n k e; whole = wh; other = cond wh [] xs }

-- the matrix in a memory whose rows are columns (c), as a column book's, or else in a packed key's
abbrev pub matrix_in : Bool → ℕ → ℕ → List ℕ → Mat
matrix_in c n l xs = cond c (book_matrix n xs) (key_matrix l xs)

-- what a memory of k columns holds
abbrev pub store_in : Bool → ℕ → ℕ → ℕ → Bool → List ℕ → Store
store_in c n l k wh xs = store_of n l k wh xs (matrix_in c n l xs)

-- what a packed key holds
abbrev pub key_store : ℕ → ℕ → ℕ → Bool → List ℕ → Store
key_store = store_in false

-- a column book's memory: column after column, pad bits and what is not yet taken 0
abbrev pub book_bytes : Store → List ℕ
book_bytes s = cond s.whole (packed_rows s.limit s.size (λ j i. entry_of s.columns i j)) s.other

-- a packed key's memory: row i is the bits i of the columns, pad bits and what is not yet taken 0
abbrev pub key_bytes : Store → List ℕ
key_bytes s = cond s.whole (packed_rows s.size s.limit (entry_of s.columns)) s.other

-- the memory of a column book (c true: its rows are columns) or of a packed key (c false)
abbrev pub bytes_in : Bool → Store → List ℕ
bytes_in c s = cond c (book_bytes s) (key_bytes s)

-- what a sink of size n and limit l is refused by, over memory of `given` bytes where `asked` are wanted
abbrev pub make_answer : ℕ → ℕ → ℕ → ℕ → Result (Unit {0}) MakeFault
make_answer n l asked given =
    cond (nat_lt 0 n) (cond (nat_le n 1664) (cond (nat_lt 0 l) (cond (nat_le l 8192) (cond (given == asked) (Ok tt) (Err Memory)) (Err Limit)) (Err Limit)) (Err (Size n))) (Err (Size n))

-- a column book over m bytes
abbrev pub book_check : ℕ → ℕ → ℕ → Result (Unit {0}) MakeFault
book_check n l m = make_answer n l (l * bytes_for n) m

-- a packed key over m bytes
abbrev pub key_check : ℕ → ℕ → ℕ → Result (Unit {0}) MakeFault
key_check n l m = make_answer n l (n * bytes_for l) m

-- a column book (c true: its rows are columns) or a packed key (c false) over m bytes
abbrev pub check_in : Bool → ℕ → ℕ → ℕ → Result (Unit {0}) MakeFault
check_in c n l m = cond c (book_check n l m) (key_check n l m)

-- a sink of refused values, over the memory as it is
abbrev pub refused_store : List ℕ → Store
refused_store xs = record { size = 1; limit = 0; columns = []; whole = false; other = xs }

-- a new sink over the memory xs: empty, or refused
abbrev pub new_store : Result (Unit {0}) MakeFault → ℕ → ℕ → List ℕ → Store
new_store r n l xs = cond (is_ok r) (record { size = n; limit = l; columns = []; whole = true; other = [] }) (refused_store xs)

-- a packed key that was received: all its columns stand in the memory xs
abbrev pub open_store : Result (Unit {0}) MakeFault → ℕ → ℕ → List ℕ → Store
open_store r n l xs = cond (is_ok r) (key_store n l l false xs) (refused_store xs)

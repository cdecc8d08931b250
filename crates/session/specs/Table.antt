-- The table of refusals, and B. Assumes nothing.
-- Line, line, first                                  a line of the table; the first one that finds its case
-- Secret, secret                                     key and blinding
-- blinded, product                                   B
-- wrong, nonzero, leading                            first columns at which a test of s B or v B or v fails
-- kind, index, ..                                    the parts of a frame
-- refused_by                                         a refusal as a result, for private functions
-- reading_lines                                      reading a frame
-- column_lines, ..                                   a column, a row, a combination
-- barred, frame_lines                                a frame in memories that fit
-- length_lines                                       the lengths of the inverse memory and of working memory
-- differ, Lent, lent, memory_lines                   the sizes, and the lengths of the lent memories
-- answering_lines, closing_lines, publishing_lines   the three calls
use Rattle.std.specs.Prelude.{ℕ, ◌+◌, ◌*◌, Bool, cond, not, ◌&&◌, ◌||◌, List, [], ◌∷◌, ◌++◌, length, drop, Some, None, Ok, Err, Option, Result, ◌==◌, nat_lt, slice_index}
use Rattle.galois.specs.Bit.{bits}
use Rattle.matrix.specs.Matrix.{Mat, delta, times, apply_row}
use Rattle.matrix.specs.Search.{least}
use Rattle.bits.specs.Bits.{bytes_for, bits_of}
use Rattle.bits.specs.Bytes.{word_at}
use Rattle.bits.specs.Columns.{columns_of, entry_of}
use Rattle.key.specs.declared.sizes.Sizes.{Sizes}
use Rattle.sink.specs.declared.fault.SinkFault.TheVariants.{Full}
use Rattle.session.specs.declared.fault.SessionFault.{SessionFault}
use Rattle.session.specs.declared.fault.SessionFault.TheVariants.{Set, Blinding, Inverse, Working, Reply, Kind, Length, Phase, Index, Turn, Wrong, Zero, Nonzero, Receiving, Singular, Done, Size, Sink}

-- one line of the table: when it refuses, and by what
pub record Line : Type 0 where
  pub when : Bool
  pub fault : SessionFault

-- a line by its two parts
abbrev pub line : Bool → SessionFault → Line
line w f = record { when = w; fault = f }

-- what the first line that finds its case refuses by
abbrev pub first : List Line → Option SessionFault
first [] = None
first (l ∷ ls) = cond l.when (Some l.fault) (first ls)

-- key and blinding: the set, the private check matrix, the blinding's size and its matrix
pub record Secret : Type 0 where
  pub set : Sizes
  pub checks : Mat
  pub order : ℕ
  pub blinding : Mat

-- key and blinding by their parts
abbrev pub secret : Sizes → Mat → ℕ → Mat → Secret
secret s H n R = record { set = s; checks = H; order = n; blinding = R }

-- R H, n by n, as the list of its packed columns
abbrev pub blinded : ℕ → Mat → Mat → List (List ℕ)
blinded n R H = columns_of n n (times bits n R H)

-- B, the blinding times the check block
abbrev pub product : Secret → List (List ℕ)
product k = blinded k.set.rows k.blinding k.checks

-- the first column in which s B is not unit row i, or n
unfoldable pub wrong : ℕ → List (List ℕ) → List ℕ → ℕ → ℕ
wrong n B s i = least n (λ j. not (apply_row bits n (entry_of B) (bits_of s) j == delta i j))

-- the first column in which v B is not 0, or n
unfoldable pub nonzero : ℕ → List (List ℕ) → List ℕ → ℕ
nonzero n B v = least n (λ j. not (apply_row bits n (entry_of B) (bits_of v) j == 0))

-- the first bit of v that is not 0, or n
unfoldable pub leading : ℕ → List ℕ → ℕ
leading n v = least n (λ j. not (bits_of v j == 0))

-- the kind of a frame; 0 where it is empty
abbrev pub kind : List ℕ → ℕ
kind f = slice_index f 0

-- the index in a frame
abbrev pub index : List ℕ → ℕ
index = word_at 1

-- the row in a frame of kind 12
abbrev pub row_in : List ℕ → List ℕ
row_in f = drop 3 f

-- the combination in a frame of kind 13
abbrev pub combination_in : List ℕ → List ℕ
combination_in f = drop 1 f

-- the kinds 11, 12, 13 and 14
abbrev pub known : ℕ → Bool
known k = k == 17 || (k == 18 || (k == 19 || k == 20))

-- the length of a whole frame of a kind, at L bytes to a vector
abbrev pub frame_length : ℕ → ℕ → ℕ
frame_length L k = cond (k == 17) 3 (cond (k == 18) (L + 3) (cond (k == 19) (L + 1) 1))

-- a refusal, or none
abbrev pub refused_by : Option SessionFault → Result (Unit {0}) SessionFault
refused_by (Some e) = Err e
refused_by None = Ok tt

-- what reading a frame is refused by
abbrev pub reading_lines : ℕ → List ℕ → List Line
reading_lines L f =
    line (not (known (kind f))) (Kind (kind f))
    ∷ line (not (length f == frame_length L (kind f))) (Length (length f))
    ∷ []

-- a column: its index i, of n
abbrev pub column_lines : ℕ → ℕ → List Line
column_lines n i = line (not (nat_lt i n)) (Index i) ∷ []

-- a row s in its turn: s B is the unit row of the rows taken
abbrev pub unit_lines : ℕ → List (List ℕ) → ℕ → List ℕ → List Line
unit_lines n B taken s = line (nat_lt (wrong n B s taken) n) (Wrong (wrong n B s taken)) ∷ []

-- a row s: its index i is the rows taken, then the same
abbrev pub row_lines : ℕ → List (List ℕ) → ℕ → ℕ → List ℕ → List Line
row_lines n B taken i s = line (not (i == taken)) (Turn taken) ∷ unit_lines n B taken s

-- a combination v: v is not zero, v B is
abbrev pub combination_lines : ℕ → List (List ℕ) → List ℕ → List Line
combination_lines n B v =
    line (not (nat_lt (leading n v) n)) Zero
    ∷ line (nat_lt (nonzero n B v) n) (Nonzero (nonzero n B v))
    ∷ []

-- only a status is answered in a phase that is not 0
abbrev pub barred : ℕ → ℕ → Bool
barred k phase = not (k == 20) && not (phase == 0)

-- the lines of a frame in memories that fit
abbrev pub frame_lines : ℕ → List (List ℕ) → ℕ → ℕ → List ℕ → List Line
frame_lines n B phase taken f =
    reading_lines (bytes_for n) f
    ++ line (barred (kind f) phase) (Phase phase)
    ∷ cond (kind f == 17) (column_lines n (index f))
    (cond (kind f == 18) (row_lines n B taken (index f) (row_in f))
    (cond (kind f == 19) (combination_lines n B (combination_in f)) []))

-- two sets differ
abbrev pub differ : Sizes → Sizes → Bool
differ a b = not (a.rows == b.rows) || not (a.rest == b.rest)

-- the lengths of the memories lent to one answering
pub record Lent : Type 0 where
  pub inverse : ℕ
  pub working : ℕ
  pub reply : ℕ

-- the lengths by their parts
abbrev pub lent : ℕ → ℕ → ℕ → Lent
lent i w r = record { inverse = i; working = w; reply = r }

-- the lengths of the inverse memory and of working memory, for n rows of n bits
abbrev pub length_lines : ℕ → ℕ → ℕ → List Line
length_lines n inverse working =
    line (not (inverse == (n * bytes_for n))) (Inverse inverse)
    ∷ line (nat_lt working (2 * bytes_for n)) (Working working)
    ∷ []

-- sizes and lengths; own: the session's set; set: the key's; order: the blinding's size
abbrev pub memory_lines : Sizes → Sizes → ℕ → Lent → List Line
memory_lines own set order m =
    line (differ own set) Set
    ∷ line (not (order == set.rows)) Blinding
    ∷ (length_lines set.rows m.inverse m.working
    ++ line (nat_lt m.reply (bytes_for set.rows + 3)) (Reply m.reply)
    ∷ [])

-- answering the frame f
abbrev pub answering_lines : Sizes → Sizes → ℕ → List (List ℕ) → ℕ → ℕ → Lent → List ℕ → List Line
answering_lines own set order B phase taken m f = memory_lines own set order m ++ frame_lines set.rows B phase taken f

-- closing
abbrev pub closing_lines : ℕ → ℕ → List Line
closing_lines phase taken = line (phase == 0) (Receiving taken) ∷ line (phase == 2) Singular ∷ []

-- publishing; inverse, working: lengths; sent: columns so far; size, limit, held: the sink's, and how many columns it holds
abbrev pub publishing_lines : Sizes → Sizes → ℕ → ℕ → ℕ → ℕ → ℕ → ℕ → List Line
publishing_lines own set inverse working sent size limit held =
    line (differ own set) Set
    ∷ (length_lines set.rows inverse working
    ++ line (sent == set.rest) (Done set.rest)
    ∷ line (not (size == set.rows)) (Size size)
    ∷ line (not (nat_lt held limit)) (Sink (Full limit))
    ∷ [])

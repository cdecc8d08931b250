-- Worked examples: what the definitions that contracts cite give for one key, and what is stated. Assumes nothing.
-- The key is that of a new slot: its check matrix has 8 rows and 12 columns, so a vector is one byte. Bytes are hex.
-- Example                   one worked example
-- Holds, Yielded            one holds; all of a list do
-- H                         the private check matrix
-- R, R_singular, B          blindings, the blinded block
-- inverse_rows, host_rows   the inverse of the check block, what our host sends
-- y, one                    elements for the maker
-- examples                  all of them; each stands by its name before
use Rattle.std.specs.Prelude.{◌≡◌, ℕ, false, List, [], ◌∷◌, map, fold, None, slice_index}
use Rattle.std.specs.List.{range_with_len}
use Rattle.galois.specs.Bit.{bits}
use Rattle.galois.specs.Gf.{times as mul}
use Rattle.matrix.specs.Matrix.{Mat, times}
use Rattle.bits.specs.Bits.{of_rows}
use Rattle.bits.specs.Columns.{columns_of, packed_rows}
use Rattle.goppa.specs.Checks.{checks}
use Rattle.goppa.specs.Loading.{fresh, entry_in}
use Rattle.params.specs.Sets.{practice12}
use Rattle.quotient.specs.Quotient.{combined, value}
use Rattle.maker.specs.Maker.{low_of, lent, checked}
use Rattle.sink.specs.Store.{with_column, bytes_in, key_check, new_store}
use Rattle.session.specs.Table.{first, blinded, frame_lines}
use Rattle.session.specs.Answers.{column_reply, unblinded, public_column}

-- a worked example: what the definitions give, and what is stated
pub record Example : Type 1 where
  pub kind : Type 0
  pub given : kind
  pub stated : kind

-- an example by its two sides
abbrev pub gives : {A : Type 0} → A → A → Example
gives {A} g s = record { kind = A; given = g; stated = s }

-- the definitions give what is stated
abbrev pub Holds : Example → Type 0
Holds l = l.given ≡ l.stated

-- every example of a list holds
abbrev pub Yielded : List Example → Type 0
Yielded [] = Unit
Yielded (l ∷ ls) = Holds l × Yielded ls

-- vectors of one byte each
abbrev pub single : List ℕ → List (List ℕ)
single bs = map (λ b. b ∷ []) bs

-- the private check matrix of the key of a new slot
abbrev pub H : Mat
H = checks fresh.set.m fresh.set.f fresh.set.t (λ k. slice_index fresh.goppa k) (λ j. slice_index fresh.support j)

-- the blinding: the identity, but row 0 has bits 0 and 1
abbrev pub R : Mat
R = of_rows 1 (0x03 ∷ 0x02 ∷ 0x04 ∷ 0x08 ∷ 0x10 ∷ 0x20 ∷ 0x40 ∷ 0x80 ∷ [])

-- a blinding whose rows 0 and 1 are equal
abbrev pub R_singular : Mat
R_singular = of_rows 1 (0x02 ∷ 0x02 ∷ 0x04 ∷ 0x08 ∷ 0x10 ∷ 0x20 ∷ 0x40 ∷ 0x80 ∷ [])

-- the rows of the inverse of the check block
abbrev pub inverse_rows : List ℕ
inverse_rows = 0x4E ∷ 0x4A ∷ 0x5F ∷ 0x5A ∷ 0xC5 ∷ 0xC9 ∷ 0x3A ∷ 0x39 ∷ []

-- our host's rows, the inverse of the blinded block
abbrev pub host_rows : List ℕ
host_rows = 0x4E ∷ 0x4A ∷ 0x5D ∷ 0x5A ∷ 0xC7 ∷ 0xCB ∷ 0x3A ∷ 0x3B ∷ []

-- the entries of y, two bytes to each
abbrev pub y : List ℕ
y = 0x00 ∷ 0x00 ∷ 0x01 ∷ 0x00 ∷ []

-- the entries of 1
abbrev pub one : List ℕ
one = 0x01 ∷ 0x00 ∷ 0x00 ∷ 0x00 ∷ []

-- the packed columns of the blinding times the check block
abbrev pub B : List (List ℕ)
B = blinded 8 R H

-- the columns of H
abbrev pub check_columns : Example
check_columns = gives (columns_of 8 12 H) (single (0x0F ∷ 0xFF ∷ 0x63 ∷ 0x53 ∷ 0x68 ∷ 0xE8 ∷ 0xC2 ∷ 0xE2 ∷ 0xFA ∷ 0x5A ∷ 0x1C ∷ 0xDC ∷ []))

-- the inverse rows times the check block are the unit rows
abbrev pub inverse_is : Example
inverse_is = gives (packed_rows 8 8 (times bits 8 (of_rows 1 inverse_rows) H)) (0x01 ∷ 0x02 ∷ 0x04 ∷ 0x08 ∷ 0x10 ∷ 0x20 ∷ 0x40 ∷ 0x80 ∷ [])

-- the public columns
abbrev pub public_columns : Example
public_columns = gives (map (public_column 8 H inverse_rows) (range_with_len 0 4)) (single (0xA3 ∷ 0x53 ∷ 0x36 ∷ 0x39 ∷ []))

-- the bytes of a packed key that took these columns, over memory that held 0 to 7
abbrev pub packed_key : Example
packed_key = gives
    (bytes_in false (fold with_column (new_store (key_check 8 4 8) 8 4 (range_with_len 0 8)) (map (public_column 8 H inverse_rows) (range_with_len 0 4))))
    (0x0B ∷ 0x07 ∷ 0x04 ∷ 0x08 ∷ 0x0E ∷ 0x0D ∷ 0x02 ∷ 0x01 ∷ [])

-- the columns of B
abbrev pub blinded_columns : Example
blinded_columns = gives B (single (0x0E ∷ 0xFE ∷ 0x62 ∷ 0x52 ∷ 0x68 ∷ 0xE8 ∷ 0xC3 ∷ 0xE3 ∷ []))

-- the replies that tell the first and the last
abbrev pub column_replies : Example
column_replies = gives (column_reply B 0 ∷ column_reply B 7 ∷ []) ((0x21 ∷ 0x00 ∷ 0x00 ∷ 0x0E ∷ []) ∷ (0x21 ∷ 0x07 ∷ 0x00 ∷ 0xE3 ∷ []) ∷ [])

-- row i of our host, in a frame of kind 12 in its turn: no line of the table refuses it
abbrev pub taken : ℕ → Example
taken i = gives (first (frame_lines 8 B 0 i (0x12 ∷ i ∷ 0x00 ∷ slice_index host_rows i ∷ []))) None

-- our host's rows times the blinding are the inverse rows
abbrev pub unblinded_rows : Example
unblinded_rows = gives (map (unblinded 8 R) (single host_rows)) (single inverse_rows)

-- under the blinding with equal rows the combination 03, their sum: no line of the table refuses it
abbrev pub combination : Example
combination = gives (first (frame_lines 8 (blinded 8 R_singular H) 0 0 (0x13 ∷ 0x03 ∷ []))) None

-- the maker: at y (entries 0 and 1) the g with g_0 = 8 and g_1 = 1 is zero modulo F(y), and its contract says that no other g is
abbrev pub maker_root : Example
maker_root = gives (map (value (mul practice12.m practice12.f) practice12.t (low_of practice12.terms) (entry_in y) (entry_in (0x08 ∷ 0x00 ∷ 0x01 ∷ 0x00 ∷ []))) (range_with_len 0 2)) (0 ∷ 0 ∷ [])

-- no check refuses y
abbrev pub maker_takes : Example
maker_takes = gives (checked practice12 y (lent 4 4 4 4)) None

-- the maker: of 1, whose entries are 1 and 0, the sum of its powers 0 and 1 is zero, so they are dependent
abbrev pub maker_dependent : Example
maker_dependent = gives (map (combined (mul practice12.m practice12.f) practice12.t (low_of practice12.terms) (entry_in one) (entry_in (0x01 ∷ 0x00 ∷ 0x01 ∷ 0x00 ∷ []))) (range_with_len 0 2)) (0 ∷ 0 ∷ [])

-- no check refuses 1
abbrev pub maker_takes_one : Example
maker_takes_one = gives (checked practice12 one (lent 4 4 4 4)) None

-- all examples
abbrev pub examples : List Example
examples =
    check_columns
    ∷ inverse_is
    ∷ public_columns
    ∷ packed_key
    ∷ blinded_columns
    ∷ column_replies
    ∷ unblinded_rows
    ∷ combination
    ∷ maker_root
    ∷ maker_takes
    ∷ maker_dependent
    ∷ maker_takes_one
    ∷ map taken (range_with_len 0 8)

-- What reading a frame gives. Assumes nothing.
-- What private steps promise; no public contract cites it.
-- word_of              a number from its two bytes
-- kind_number, Kinded  the number of a kind, and what telling a kind from a number gives
-- Reads                what reading a frame gives
use Rattle.std.specs.Prelude.{◌≡◌, ℕ, ◌+◌, ◌*◌, true, not, List, length, Some, Ok, Err, Result}
use Rattle.session.specs.declared.fault.SessionFault.{SessionFault}
use Rattle.session.specs.declared.fault.SessionFault.TheVariants as refusals
use Rattle.session.specs.declared.frame.Frame.{Frame}
use Rattle.session.specs.declared.frame.Frame.TheVariants.{Column, Row, Combination, Status}
use Rattle.session.specs.declared.frame.Kind.{Kind}
use Rattle.session.specs.declared.frame.Kind.TheVariants as kinds
use Rattle.session.specs.Table.{first, kind, index, row_in, combination_in, known, reading_lines}

-- a number from its bytes, the low one first
abbrev pub word_of : ℕ → ℕ → ℕ
word_of low high = low + 256 * high

-- the number of a kind
abbrev pub kind_number : Kind → ℕ
kind_number kinds.Column = 17
kind_number kinds.Row = 18
kind_number kinds.Combination = 19
kind_number kinds.Status = 20

-- the kind of a number; a number of no kind is refused
abbrev pub Kinded : ℕ → Result Kind SessionFault → Type 0
Kinded k (Ok x) = k ≡ kind_number x
Kinded k (Err e) = (not (known k) ≡ true) × (e ≡ refusals.Kind k)

-- reading the frame f, at L bytes to a vector
abbrev pub Reads : ℕ → List ℕ → Result Frame SessionFault → Type 0
Reads L f (Ok (Column i)) = (kind f ≡ 17) × (length f ≡ 3) × (i ≡ index f)
Reads L f (Ok (Row i b)) = (kind f ≡ 18) × (length f ≡ L + 3) × (i ≡ index f) × (b.now ≡ row_in f)
Reads L f (Ok (Combination b)) = (kind f ≡ 19) × (length f ≡ L + 1) × (b.now ≡ combination_in f)
Reads L f (Ok Status) = (kind f ≡ 20) × (length f ≡ 1)
Reads L f (Err e) = Some e ≡ first (reading_lines L f)

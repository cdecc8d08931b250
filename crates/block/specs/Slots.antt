-- The key slot at work: its sizes, and that its check matrix is one of bits; column_word and column_crossed are
-- for private functions. Assumes nothing.
use Rattle.std.specs.Prelude.{ℕ, ◌-◌, ◌*◌, ◌<◌, ◌≤◌, List, length, slice_index}
use Rattle.std.proofs.Common.{arith}
use Rattle.galois.specs.Bit.{bits}
use Rattle.matrix.specs.Matrix.{Els}
use Rattle.key.specs.declared.sizes.Sizes.{Sizes}
use Rattle.goppa.specs.Checks.{ratio, checks}
use Rattle.goppa.specs.Loading.{check_matrix}
use Rattle.goppa.specs.declared.slot.KeySlot.{KeySlot}
use Rattle.block.specs.Lanes.{crossed}

-- the rows of the check matrix: mt
abbrev pub rows_of : KeySlot → ℕ
rows_of s = s.set.m * s.set.t

-- mt rows, and the n - mt columns past the check block
abbrev pub sizes_of : KeySlot → Sizes
sizes_of s = record { rows = rows_of s; rest = s.set.n - rows_of s }

-- word i of column j: a_j^i / g(a_j)
abbrev pub column_word : KeySlot → ℕ → ℕ → ℕ
column_word s j i = ratio s.set.m s.set.f s.set.t (λ k. slice_index s.goppa k) (slice_index s.support j) i

-- the words against those of column j, from the inverse that the slot keeps
abbrev pub column_crossed : KeySlot → List ℕ → ℕ → ℕ
column_crossed s words j = crossed s.set.m s.set.f (length words) words (slice_index s.support j) (slice_index s.inverses j)

-- 0 < mt, mt <= 1,664 and n - mt <= 8,192, of every slot
pub sizes_bounded : (s : KeySlot) → (0 < (sizes_of s).rows) × ((sizes_of s).rows ≤ 1664) × ((sizes_of s).rest ≤ 8192)
sizes_bounded s = (s.set.order, s.set.rows, omega (arith, s.set.long))

-- every entry of the check matrix is a bit
pub check_bits : (s : KeySlot) → Els bits (check_matrix s)
unfolding checks
check_bits s i j = omega arith

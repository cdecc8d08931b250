-- Byte strings at the head of a memory, and numbers of two bytes. Assumes nothing.
use Rattle.std.specs.Prelude.{ℕ, ◌+◌, ◌*◌, List, ◌++◌, length, drop, slice_index}

-- xs stands first, the rest of the memory is unchanged
abbrev pub laid : List ℕ → List ℕ → List ℕ
laid xs memory = xs ++ drop (length xs) memory

-- the number of the two bytes at a place, low byte first
abbrev pub word_at : ℕ → List ℕ → ℕ
word_at at xs = slice_index xs at + 256 * slice_index xs (at + 1)

-- What loading a key gives, and what a slot means. Assumes nothing.
-- entry_in, support_in        an entry in the bytes of a key; the support in them
-- any                        any number below a bound passes a test
-- large, repeated, root       the tests of loading, at one entry each
-- large_in, ..                the same, on bytes
-- InversesIn                  the inverses of g on the support in bytes, for private functions
-- Key                         a key: set, coefficients, support
-- key_of, key_in              the key in a slot; in bytes
-- check_matrix                the private check matrix of a slot
-- fresh                       the key of a new slot
-- refused_at, unless          a refusal at the first place that passes a test
-- read_as, read_by, loaded    the key in bytes, or the refusal: under a set, where it is found, under a name
-- outcome, held               what loading returns, and what the slot then holds
-- told_loading                how loading's faults are told
use Rattle.std.specs.Prelude.{ℕ, zero, suc, ◌+◌, ◌*◌, ◌^◌, Bool, false, cond, not, ◌||◌, List, [], ◌∷◌, map, length, take, Option, Some, None, Ok, Err, Result, ◌==◌, nat_eq, nat_lt, slice_index}
use Rattle.std.specs.List.{range_with_len}
use Rattle.matrix.specs.Matrix.{Mat}
use Rattle.matrix.specs.Search.{found}
use Rattle.params.specs.Sets.{numbers, practice12, named, told_sets}
use Rattle.params.specs.declared.numbers.Numbers.{Numbers}
use Rattle.params.specs.declared.set.SetFault.{SetFault}
use Rattle.refusal.specs.Refusals.{refused}
use Rattle.refusal.specs.declared.told.Refusal.{Refusal}
use Rattle.refusal.specs.declared.told.Layer.TheVariants.{Loading}
use Rattle.goppa.specs.Checks.{value, checks}
use Rattle.goppa.specs.Keys.{Inverses}
use Rattle.goppa.specs.declared.fault.LoadFault.{LoadFault}
use Rattle.goppa.specs.declared.fault.LoadFault.TheVariants.{Set, Length, Large, Repeated, Root}
use Rattle.goppa.specs.declared.slot.KeySlot.{KeySlot}

-- entry k of a key's bytes: two bytes, the low one first
abbrev pub entry_in : List ℕ → ℕ → ℕ
entry_in bs k = slice_index bs (2 * k) + 256 * slice_index bs (2 * k + 1)

-- the support in a key's bytes, after the t coefficients
abbrev pub support_in : (t : ℕ) → List ℕ → ℕ → ℕ
support_in t bs j = entry_in bs (t + j)

-- any number below n passes the test
unfoldable pub any : ℕ → (ℕ → Bool) → Bool
any zero p = false
any (suc n) p = any n p || p n

-- entry k is no element of the field
abbrev pub large : (m : ℕ) → (ℕ → ℕ) → ℕ → Bool
large m e k = not (nat_lt (e k) (2 ^ m))

-- a_j is among the a_i before it
abbrev pub repeated : (ℕ → ℕ) → ℕ → Bool
repeated a j = any j (λ i. nat_eq (a i) (a j))

-- g is zero at a_j
abbrev pub root : (m f t : ℕ) → (ℕ → ℕ) → (ℕ → ℕ) → ℕ → Bool
root m f t g a j = value m f t g (a j) == 0

-- the same tests on the bytes of a key of the set s
abbrev pub large_in : Numbers → List ℕ → ℕ → Bool
large_in s bs = large s.m (entry_in bs)

abbrev pub repeated_in : Numbers → List ℕ → ℕ → Bool
repeated_in s bs = repeated (support_in s.t bs)

abbrev pub root_in : Numbers → List ℕ → ℕ → Bool
root_in s bs = root s.m s.f s.t (entry_in bs) (support_in s.t bs)

-- y_j = 1 / g(a_j), of the key in the bytes
abbrev pub InversesIn : Numbers → List ℕ → (ℕ → ℕ) → Type 0
InversesIn s bs y = Inverses s.m s.f s.t s.n (entry_in bs) (support_in s.t bs) y

-- a key: its set, the coefficients g_0 to g_(t-1), the support a_0 to a_(n-1)
pub record Key : Type 0 where
  pub set : Numbers
  pub goppa : List ℕ
  pub support : List ℕ

-- the key in a slot
abbrev pub key_of : KeySlot → Key
key_of s = record { set = numbers s.set; goppa = take s.set.t s.goppa; support = take s.set.n s.support }

-- the private check matrix of the key in a slot
abbrev pub check_matrix : KeySlot → Mat
check_matrix s = checks s.set.m s.set.f s.set.t (λ k. slice_index s.goppa k) (λ j. slice_index s.support j)

-- the key of a new slot: practice12 with g = x^2 + x + 8 and the support 0 to 11
abbrev pub fresh : Key
fresh = record { set = practice12; goppa = 8 ∷ 1 ∷ []; support = range_with_len 0 12 }

-- the key in the bytes under the set s: first the coefficients, then the support
abbrev pub key_in : Numbers → List ℕ → Key
key_in s bs = record { set = s; goppa = map (entry_in bs) (range_with_len 0 s.t); support = map (support_in s.t bs) (range_with_len 0 s.n) }

-- the place that was found is refused
abbrev pub refused_at : Option ℕ → (ℕ → LoadFault) → Result Key LoadFault → Result Key LoadFault
refused_at (Some k) fault next = Err (fault k)
refused_at None fault next = next

-- the first place below n that passes the test is refused
abbrev pub unless : ℕ → (ℕ → Bool) → (ℕ → LoadFault) → Result Key LoadFault → Result Key LoadFault
unless n p fault next = refused_at (found n p) fault next

-- the key in the bytes under the set s, or the refusal
abbrev pub read_as : Numbers → List ℕ → Result Key LoadFault
read_as s bs =
    cond (not (length bs == 2 * (s.t + s.n))) (Err (Length (length bs)))
    (unless (s.t + s.n) (large_in s bs) Large
    (unless s.n (repeated_in s bs) (λ j. Repeated (s.t + j))
    (unless s.n (root_in s bs) (λ j. Root (s.t + j))
    (Ok (key_in s bs)))))

-- the same where the set is found, or its refusal
abbrev pub read_by : Result Numbers SetFault → List ℕ → Result Key LoadFault
read_by (Ok s) bs = read_as s bs
read_by (Err e) bs = Err (Set e)

-- what loading these bytes under this name gives
abbrev pub loaded : List ℕ → List ℕ → Result Key LoadFault
loaded name bs = read_by (named name) bs

-- what loading returns
abbrev pub outcome : Result Key LoadFault → Result (Unit {0}) LoadFault
outcome (Ok k) = Ok tt
outcome (Err e) = Err e

-- the key that the slot then holds: a refusal leaves the old one
abbrev pub held : Result Key LoadFault → Key → Key
held (Ok k) old = k
held (Err e) old = old

-- how loading's faults are told: an unknown name as the sets tell it, the others by 2 to 5
abbrev pub told_loading : LoadFault → Refusal
told_loading (Set e) = told_sets e
told_loading (Length l) = refused Loading 2 l
told_loading (Large k) = refused Loading 3 k
told_loading (Repeated k) = refused Loading 4 k
told_loading (Root k) = refused Loading 5 k

-- What making a Goppa polynomial gives. Assumes nothing.
-- low_of              F(y) of a set
-- Lent, lent          the lengths of the lent memories
-- unfit               one of them is wrong
-- large_at            the first entry that is no element
-- checked             what the checks under a set refuse by
-- refused_by          a refusal as a result, for private functions
-- Held, held          what result and tables hold
-- Given               a made polynomial, or dependent powers
-- MadeUnder, MadeAs   what a call gives and leaves, after the checks, after the set
-- Made                one call
-- told_maker          how the refusals are told
use Rattle.std.specs.Prelude.{◌≡◌, ℕ, ◌*◌, Bool, cond, not, ◌||◌, List, [], ◌∷◌, Option, Some, None, Ok, Err, Result, ◌==◌, bit_xor}
use Rattle.galois.specs.Gf.{times}
use Rattle.matrix.specs.Search.{found}
use Rattle.refusal.specs.Refusals.{refused}
use Rattle.refusal.specs.declared.told.Refusal.{Refusal}
use Rattle.refusal.specs.declared.told.Layer.TheVariants.{Maker}
use Rattle.params.specs.Sets.{named, told_sets}
use Rattle.params.specs.declared.numbers.Numbers.{Numbers}
use Rattle.params.specs.declared.numbers.Term.{Term}
use Rattle.params.specs.declared.set.SetFault.{SetFault}
use Rattle.goppa.specs.Loading.{entry_in, large}
use Rattle.quotient.specs.Roots.{TheMonic, DependentPowers}
use Rattle.maker.specs.declared.fault.MakerFault.{MakerFault}
use Rattle.maker.specs.declared.fault.MakerFault.TheVariants.{Set, Length, Large, Dependent as Depends}

-- the coefficient of y^i in the terms of F(y) below its highest
unfoldable pub low_of : List Term → ℕ → ℕ
low_of [] i = 0
low_of (x ∷ xs) i = bit_xor (cond (x.power == i) x.coefficient 0) (low_of xs i)

-- the lengths of the memories: two bytes to an entry, t t cells to a table
pub record Lent : Type 0 where
  pub entries : ℕ
  pub powers : ℕ
  pub inverse : ℕ
  pub goppa : ℕ

-- the lengths by their parts
abbrev pub lent : ℕ → ℕ → ℕ → ℕ → Lent
lent e p i g = record { entries = e; powers = p; inverse = i; goppa = g }

-- a length is not the one that degree t asks for
abbrev pub unfit : ℕ → Lent → Bool
unfit t m = not (m.entries == 2 * t) || (not (m.powers == t * t) || (not (m.inverse == t * t) || not (m.goppa == 2 * t)))

-- the first entry that is no element is refused
abbrev pub large_at : Option ℕ → Option MakerFault
large_at (Some k) = Some (Large k)
large_at None = None

-- what the entries bs and the memories are refused by, under the set s
abbrev pub checked : Numbers → List ℕ → Lent → Option MakerFault
checked s bs m = cond (unfit s.t m) (Some Length) (large_at (found s.t (large s.m (entry_in bs))))

-- a refusal as a result
abbrev pub refused_by : Option MakerFault → Result (Unit {0}) MakerFault
refused_by (Some e) = Err e
refused_by None = Ok tt

-- what the result's bytes and the cells of the two tables are
pub record Held (X : Type 0) : Type 0 where
  pub goppa : List ℕ
  pub powers : List X
  pub inverse : List X

-- these by their parts
abbrev pub held : {X : Type 0} → List ℕ → List X → List X → Held X
held g p i = record { goppa = g; powers = p; inverse = i }

-- past the checks: g is zero at the entries' polynomial modulo F(y), or its powers are dependent
abbrev pub Given : Numbers → List ℕ → List ℕ → List ℕ → Result (Unit {0}) MakerFault → Type 0
Given s bs old new (Ok x) = TheMonic (times s.m s.f) s.m s.t (low_of s.terms) (entry_in bs) (entry_in new)
Given s bs old new (Err e) = (e ≡ Depends) × (new ≡ old) × DependentPowers (times s.m s.f) s.m s.t (low_of s.terms) (entry_in bs)

-- a refusal of the checks leaves all memory as it was
abbrev pub MadeUnder : {X : Type 0} → Numbers → List ℕ → Held X → Held X → Result (Unit {0}) MakerFault → Option MakerFault → Type 0
MadeUnder s bs old new r (Some e) = (r ≡ Err e) × (new ≡ old)
MadeUnder s bs old new r None = Given s bs old.goppa new.goppa r

-- the same from the set on
abbrev pub MadeAs : {X : Type 0} → List ℕ → Lent → Held X → Held X → Result (Unit {0}) MakerFault → Result Numbers SetFault → Type 0
MadeAs bs m old new r (Ok s) = MadeUnder s bs old new r (checked s bs m)
MadeAs bs m old new r (Err e) = (r ≡ Err (Set e)) × (new ≡ old)

-- making under a name from the entries bs
abbrev pub Made : {X : Type 0} → List ℕ → List ℕ → Lent → Held X → Held X → Result (Unit {0}) MakerFault → Type 0
Made name bs m old new r = MadeAs bs m old new r (named name)

-- how the refusals are told
abbrev pub told_maker : MakerFault → Refusal
told_maker (Set e) = told_sets e
told_maker Length = refused Maker 30 0
told_maker (Large k) = refused Maker 31 k
told_maker Depends = refused Maker 32 0

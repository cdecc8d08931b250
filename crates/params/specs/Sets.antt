-- The seven parameter sets and their names. Assumes nothing.
-- numbers               the numbers of a set
-- term, none            a term of F(y); an empty place for one
-- practice12, ..        the sets
-- named                 the set of a name, or the refusal
-- numbers_or            the numbers of what finding a set returns
-- told_sets             how the refusal is told
use Rattle.std.specs.Prelude.{ℕ, cond, List, [], ◌∷◌, Ok, Err, codes, Result}
use Rattle.std.specs.Str.{bytes_eq}
use Rattle.refusal.specs.Refusals.{refused}
use Rattle.refusal.specs.declared.told.Refusal.{Refusal}
use Rattle.refusal.specs.declared.told.Layer.TheVariants.{Sets}
use Rattle.params.specs.declared.numbers.Term.{Term}
use Rattle.params.specs.declared.numbers.Numbers.{Numbers}
use Rattle.params.specs.declared.set.ParameterSet.{ParameterSet}
use Rattle.params.specs.declared.set.SetFault.{SetFault}
use Rattle.params.specs.declared.set.SetFault.TheVariants.{Name}

-- the numbers of a set
abbrev pub numbers : ParameterSet → Numbers
numbers s = record { m = s.m; f = s.f; t = s.t; n = s.n; terms = s.terms }

-- c y^k
abbrev pub term : ℕ → ℕ → Term
term c k = record { power = k; coefficient = c }

-- no term
abbrev pub none : Term
none = term 0 0

-- y^2 + y + z^3
abbrev pub practice12 : Numbers
practice12 = record { m = 4; f = 19; t = 2; n = 12; terms = term 1 1 ∷ term 8 0 ∷ none ∷ none ∷ [] }

-- y^3 + y + 1
abbrev pub practice20 : Numbers
practice20 = record { m = 5; f = 37; t = 3; n = 20; terms = term 1 1 ∷ term 1 0 ∷ none ∷ none ∷ [] }

-- y^64 + y^3 + y + z
abbrev pub mceliece348864 : Numbers
mceliece348864 = record { m = 12; f = 4105; t = 64; n = 3488; terms = term 1 3 ∷ term 1 1 ∷ term 2 0 ∷ none ∷ [] }

-- y^96 + y^10 + y^9 + y^6 + 1
abbrev pub mceliece460896 : Numbers
mceliece460896 = record { m = 13; f = 8219; t = 96; n = 4608; terms = term 1 10 ∷ term 1 9 ∷ term 1 6 ∷ term 1 0 ∷ [] }

-- y^128 + y^7 + y^2 + y + 1
abbrev pub mceliece6688128 : Numbers
mceliece6688128 = record { m = 13; f = 8219; t = 128; n = 6688; terms = term 1 7 ∷ term 1 2 ∷ term 1 1 ∷ term 1 0 ∷ [] }

-- y^119 + y^8 + 1
abbrev pub mceliece6960119 : Numbers
mceliece6960119 = record { m = 13; f = 8219; t = 119; n = 6960; terms = term 1 8 ∷ term 1 0 ∷ none ∷ none ∷ [] }

-- y^128 + y^7 + y^2 + y + 1
abbrev pub mceliece8192128 : Numbers
mceliece8192128 = record { m = 13; f = 8219; t = 128; n = 8192; terms = term 1 7 ∷ term 1 2 ∷ term 1 1 ∷ term 1 0 ∷ [] }

-- the set of a name, or the refusal
abbrev pub named : List ℕ → Result Numbers SetFault
named s =
    cond (bytes_eq s (codes "practice12")) (Ok practice12)
    (cond (bytes_eq s (codes "practice20")) (Ok practice20)
    (cond (bytes_eq s (codes "mceliece348864")) (Ok mceliece348864)
    (cond (bytes_eq s (codes "mceliece460896")) (Ok mceliece460896)
    (cond (bytes_eq s (codes "mceliece6688128")) (Ok mceliece6688128)
    (cond (bytes_eq s (codes "mceliece6960119")) (Ok mceliece6960119)
    (cond (bytes_eq s (codes "mceliece8192128")) (Ok mceliece8192128)
    (Err Name)))))))

-- the numbers of what finding a set returns
abbrev pub numbers_or : Result ParameterSet SetFault → Result Numbers SetFault
numbers_or (Ok s) = Ok (numbers s)
numbers_or (Err e) = Err e

-- how the refusal is told
abbrev pub told_sets : SetFault → Refusal
told_sets Name = refused Sets 1 0

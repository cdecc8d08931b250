-- The fields of the parameter sets, and the terms of F(y). Assumes nothing.
use Rattle.std.specs.Prelude.{ℕ, ◌^◌, Bool, true, ◌&&◌, ◌||◌, List, [], ◌∷◌, ◌==◌, nat_lt}
use Rattle.params.specs.declared.numbers.Term.{Term}

-- the reducing polynomials: of width 4, z^4+z+1; 5, z^5+z^2+1; 12, z^12+z^3+1; 13, z^13+z^4+z^3+z+1
abbrev pub known : ℕ → ℕ → Bool
known m f = (m == 4 && f == 19) || ((m == 5 && f == 37) || ((m == 12 && f == 4105) || (m == 13 && f == 8219)))

-- the terms stand below y^t, and their coefficients are elements of the field
abbrev pub below : ℕ → ℕ → List Term → Bool
below m t [] = true
below m t (x ∷ xs) = (nat_lt x.power t && nat_lt x.coefficient (2 ^ m)) && below m t xs

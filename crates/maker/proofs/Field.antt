-- A field whose product is that modulo f, of width m. Assumes nothing.
use Rattle.std.proofs.Common.{◌≡◌, ℕ, ◌∙◌, ap₂}
use Rattle.galois.specs.Arith.{Arith}
use Rattle.galois.specs.Gf.{times}

-- K has the width m and the product modulo f
pub record IsField (K : Arith) (m f : ℕ) : Type 0 where
  pub wide : K.width ≡ m
  pub product : (x y : ℕ) → K.mul x y ≡ times m f x y

-- the products are one function
pub one-product : (K : Arith) (m f : ℕ) → IsField K m f → K.mul ≡ times m f
one-product K m f h = λ i x y. h.product x y i

-- a field of width w modulo r, where these are m and f
pub tied : (K : Arith) (w r m f : ℕ) → K.width ≡ w → ((x y : ℕ) → K.mul x y ≡ times w r x y) → (w ≡ m) × (r ≡ f) → IsField K m f
tied K w r m f wide product same = record { wide = wide ∙ same.0; product = λ x y. product x y ∙ ap₂ (λ w' r'. times w' r' x y) same.0 same.1 }

-- one product of it
pub same-product : (w r m f x y : ℕ) → (w ≡ m) × (r ≡ f) → times w r x y ≡ times m f x y
same-product w r m f x y same = ap₂ (λ w' r'. times w' r' x y) same.0 same.1

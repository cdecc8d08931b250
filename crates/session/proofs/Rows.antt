-- A row in its place of the inverse memory. Assumes nothing.
use Rattle.std.proofs.Common.{◌≡◌, ℕ, ◌+◌, ◌*◌, ◌<◌, ◌≤◌, true, ltb, subst, mul-le-mul_right, suc-mul, arith, ltb-true}
use Rattle.bits.specs.Bits.{bytes_for}
use Rattle.session.specs.State.{agrees}
use Rattle.session.specs.declared.state.Phase.{Phase}
use Rattle.session.specs.declared.state.Phase.TheVariants.{Receiving}

-- a session that receives rows has not taken all of them
pub row-left : (p : Phase) (i n : ℕ) → agrees p i n ≡ true → p ≡ Receiving → i < n
row-left p i n h e = let below : ltb i n ≡ true = subst (λ q. agrees q i n ≡ true) e h in omega (arith, ltb-true)

pub row_fits : (i n m : ℕ) → i < n → m ≡ n * bytes_for n → i * bytes_for n + bytes_for n ≤ m
row_fits i n m h em = omega (arith, suc-mul i (bytes_for n), mul-le-mul_right (bytes_for n) h)

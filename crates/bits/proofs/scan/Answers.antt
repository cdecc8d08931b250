use Rattle.std.proofs.Common.{◌≡◌, tests, rules}
use Rattle.std.proofs.lemmas.Iterator.{first_from_Range}
use Rattle.matrix.specs.Matrix.{delta}
use Rattle.bits.specs.Bits.{bits_of}
use Rattle.bits.proofs.Units.{first-found}
use Rattle.bits.proofs.scan.Goals as goal

pub returns : goal.returns
returns c =
    let v = c.args.v.now in
    let i = c.args.i in
    first-found v c.args.n i c.args.from _ c.requires.right
    (first_from_Range _ _ _ _ (λ j. bits_of v j ≡ delta i j → ⊥) (λ j. bits_of v j ≡ delta i j) c.find.ensures.ran
    (λ x q k. search (rules, tests)) (λ x q k. search (rules, tests)))

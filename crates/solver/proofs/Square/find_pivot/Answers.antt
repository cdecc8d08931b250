use Rattle.std.proofs.Common.{◌≡◌, ◌≢◌, rules, tests}
use Rattle.std.proofs.lemmas.Iterator.{first_from_Range}
use Rattle.solver.specs.Squares.{matrix}
use Rattle.solver.proofs.Square.find_pivot.Goals as goal

pub returns : goal.returns
returns g c =
    let M = matrix c.args.self.now in
    first_from_Range _ _ _ c.find.result (λ p. M p c.args.c ≢ 0) (λ p. M p c.args.c ≡ 0) c.find.ensures.ran (λ x q k. search (rules, tests)) (λ x q k. search (rules, tests))
